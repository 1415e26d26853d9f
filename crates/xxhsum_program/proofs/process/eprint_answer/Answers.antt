use Rattle.xxhsum_program.proofs.process.eprint_answer.Goals as goal

pub returns-in-Version : goal.returns-in-Version
returns-in-Version g c = rw c.in-Version.is c.eprint_line.ensures

pub returns-in-Help : goal.returns-in-Help
returns-in-Help g c = rw c.in-Help.is c.eprint_usage.ensures

pub returns-in-Benchmark : goal.returns-in-Benchmark
returns-in-Benchmark g c = rw c.in-Benchmark.is c.eprint_line-in-Benchmark.ensures

pub returns-in-WrongOption : goal.returns-in-WrongOption
returns-in-WrongOption g c = rw c.in-WrongOption.is (rw c.word_at.ensures at c.eprint_wrong.ensures)

pub returns-in-NulsInList : goal.returns-in-NulsInList
returns-in-NulsInList g c = rw c.in-NulsInList.is c.eprint_wrong-in-NulsInList.ensures

pub returns-in-FormatWithoutAudit : goal.returns-in-FormatWithoutAudit
returns-in-FormatWithoutAudit g c = rw c.in-FormatWithoutAudit.is c.eprint_wrong-in-FormatWithoutAudit.ensures

pub returns-in-NulsInJson : goal.returns-in-NulsInJson
returns-in-NulsInJson g c = rw c.in-NulsInJson.is c.eprint_wrong-in-NulsInJson.ensures

pub returns-in-WalkBesideLists : goal.returns-in-WalkBesideLists
returns-in-WalkBesideLists g c = rw c.in-WalkBesideLists.is c.eprint_wrong-in-WalkBesideLists.ensures

pub returns-in-WalkOfNothing : goal.returns-in-WalkOfNothing
returns-in-WalkOfNothing g c = rw c.in-WalkOfNothing.is c.eprint_wrong-in-WalkOfNothing.ensures

pub returns-in-ExcludeWithoutWalk : goal.returns-in-ExcludeWithoutWalk
returns-in-ExcludeWithoutWalk g c = rw c.in-ExcludeWithoutWalk.is c.eprint_wrong-in-ExcludeWithoutWalk.ensures

pub returns-in-SlashInPattern : goal.returns-in-SlashInPattern
returns-in-SlashInPattern g c = rw c.in-SlashInPattern.is c.eprint_wrong-in-SlashInPattern.ensures

pub returns-in-WrongDirectory : goal.returns-in-WrongDirectory
returns-in-WrongDirectory g c = rw c.in-WrongDirectory.is c.eprint_wrong-in-WrongDirectory.ensures

pub returns-in-InputBesideNames : goal.returns-in-InputBesideNames
returns-in-InputBesideNames g c = rw c.in-InputBesideNames.is c.eprint.ensures

pub returns-in-NumberTooLarge : goal.returns-in-NumberTooLarge
returns-in-NumberTooLarge g c = rw c.in-NumberTooLarge.is c.eprint-in-NumberTooLarge.ensures

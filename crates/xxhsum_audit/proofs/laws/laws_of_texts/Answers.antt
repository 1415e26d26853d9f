use Rattle.xxhsum_audit.proofs.JsonFacts.{object_is_one_line, objects_differ}
use Rattle.xxhsum_audit.proofs.TextFacts.{lines_differ, records_differ, remark_is_one_line}
use Rattle.xxhsum_audit.proofs.laws.laws_of_texts.Goals as goal

pub returns : goal.returns
returns c = record { one_line = remark_is_one_line; lines = lines_differ; records = records_differ; one_object = object_is_one_line; objects = objects_differ }

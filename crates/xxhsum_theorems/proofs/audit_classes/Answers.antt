use Rattle.xxhsum_theorems.proofs.audit_classes.Goals as goal

pub returns : goal.returns
returns c = λ lines names found is. let laws = c.laws_of_audits.ensures in (
  laws.lines lines names found is,
  laws.names lines names found is,
  laws.right lines names found is,
  laws.no_move lines names found is,
)

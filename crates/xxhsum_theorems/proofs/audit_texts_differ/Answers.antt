use Rattle.xxhsum_theorems.proofs.audit_texts_differ.Goals as goal

pub returns : goal.returns
returns c = record {
  lines = c.laws_of_texts.ensures.lines;
  records = c.laws_of_texts.ensures.records;
  objects = c.laws_of_texts.ensures.objects;
  digests = c.laws_of_lines.ensures.digests_differ;
}

use Rattle.std.proofs.Common.{ap}
use Rattle.java_model.specs.IndexFile.Content.{rows_of}
use Rattle.disk_index.proofs.FileRead.{empty_table, nothing_held}
use Rattle.disk_index.proofs.part.DiskPart.empty.Goals as goal

pub invariant_of-result : goal.invariant_of-result
invariant_of-result c = empty_table c.new.result.items c.new-2.result.items c.new-3.result.items c.new.ensures.items c.new-2.ensures.items c.new-3.ensures.items

pub returns-clause-entries : goal.returns-clause-entries
returns-clause-entries c = ap (λ content. content.entries) (nothing_held c.new.result.items c.new.ensures.items)

pub returns-clause-rows : goal.returns-clause-rows
returns-clause-rows c = ap (λ content. rows_of content.postings) (nothing_held c.new.result.items c.new.ensures.items)

use Rattle.std.proofs.Common.{◌-◌, ◌*◌, List, ℕ, [], subst, refl, arith}
use Rattle.java_model.specs.IndexFile.Reading.{blocks_at}
use Rattle.disk_index.specs.Named.{Walks}
use Rattle.disk_index.proofs.NamedFile.{none_finds, category_finds}
use Rattle.disk_index.proofs.named.add_category.Goals as goal

pub returns-then-count-eq0 : goal.returns-then-count-eq0
returns-then-count-eq0 g c = λ byte name postings key only words legal.
    none_finds (g.P.Admit.admitted c.args.pattern.now) c.args.file.now c.args.table.now c.args.range c.args.count byte postings c.args.hits.now.items c.if-count-eq0.true words

pub returns : goal.returns
returns g c = λ byte name postings key only words legal.
    category_finds c.add_from.result (g.P.Admit.admitted c.args.pattern.now) c.args.file.now c.args.table.now c.args.range c.args.count c.block_before-block.result (c.args.count - 16 * c.block_before-block.result) byte name c.args.key.now c.args.hits.now.items c.add_from.new.hits.items postings key only
    words legal (omega arith) (λ i. omega (arith, c.type_inv.file i)) (omega (arith, c.block_before-block.ensures.within, c.block_count.ensures)) c.block_before-block.ensures.before refl
    (subst (λ (bytes : List ℕ). Walks (g.P.Admit.admitted c.args.pattern.now) c.args.key.now c.args.hits.now.items c.add_from.new.hits.items c.add_from.result (blocks_at c.args.range 0 [] (c.args.count - 16 * c.block_before-block.result) bytes)) c.block_bytes.ensures c.add_from.ensures)

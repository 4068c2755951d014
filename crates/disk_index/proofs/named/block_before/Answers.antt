use Rattle.std.proofs.Common.{◌≡◌, ◌⊎◌, ◌+◌, ℕ, false, sym, subst, arith}
use Rattle.disk_index.specs.Named.{begins_before, block_bytes}
use Rattle.disk_index.proofs.named.block_before.Goals as goal

pub returns-clause-after : goal.returns-clause-after
returns-clause-after c =
    let next : c.loop-high.low + 1 ≡ c.loop-high.high = omega (arith, c.loop-high.invariant.some, c.loop-high-test.false) in
    subst (λ (n : ℕ). (n ≡ c.args.blocks) ⊎ (begins_before c.args.key.now (block_bytes c.args.file.now c.args.table.now n) ≡ false)) (sym next) c.loop-high.invariant.after

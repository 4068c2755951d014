use Rattle.std.proofs.Common.{inl, inr, arith, ◌∙◌}
use Rattle.java_bind.specs.Roles.{role_of}
use Rattle.java_bind.proofs.Packages.{counts_none, counts_last, counts_more}
use Rattle.java_bind.proofs.runs.counts_before.Goals as goal

pub returns-in_default-kinds : goal.returns-in_default-kinds
returns-in_default-kinds c =
    c.is_import-in_default-kinds.ensures ∙ counts_none (role_of c.args.role) c.args.name.now c.args.kinds.now c.in_default-kinds.len_below

pub returns-then-name-eq1 : goal.returns-then-name-eq1
returns-then-name-eq1 c =
    counts_last (role_of c.args.role) c.counts_before_last.result c.kind-item.result c.args.name.now c.args.kinds.now (omega arith) (omega arith)
    c.kind-item.is c.counts_before_last.ensures (inl c.if-name-eq1.true)

pub returns-then-kinds-eq1 : goal.returns-then-kinds-eq1
returns-then-kinds-eq1 c =
    counts_last (role_of c.args.role) c.counts_before_last-then-kinds-eq1.result c.kind-item.result c.args.name.now c.args.kinds.now (omega arith) (omega arith)
    c.kind-item.is c.counts_before_last-then-kinds-eq1.ensures (inr c.if-kinds-eq1.true)

pub returns : goal.returns
returns c =
    counts_more (role_of c.args.role) c.counts_before_more.result c.kind-item.result c.args.name.now c.args.kinds.now (omega arith) (omega arith)
    c.kind-item.is c.counts_before_more.ensures c.if-name-eq1.false c.if-kinds-eq1.false

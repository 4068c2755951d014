use Rattle.std.proofs.Common.{◌≡◌, false, get_or, sym, ◌∙◌, arith}
use Rattle.java_model.specs.SearchPattern.NameMatch.{is_same}
use Rattle.search_pattern.proofs.SameNames.{prefix_past, prefix_stops}
use Rattle.search_pattern.proofs.same.is_prefix.Goals as goal
use Rattle.search_pattern.proofs.same.is_prefix.Goals.{then-i-name-via-then-i-name, then-i-name-via-else-i-name+then-not-is_same_byte}

pub returns-then-i-name : goal.returns-then-i-name
returns-then-i-name c =
    let ps = c.args.pattern.now in
    let ns = c.args.name.now in
    let i = c.loop-i.i in
    elim c.then-i-name.branch [
      | then-i-name-via-then-i-name w ↦ sym (prefix_past c.args.case ps ns i (omega arith) (omega arith)) ∙ c.loop-i.invariant
      | then-i-name-via-else-i-name+then-not-is_same_byte w ↦
          let differ : is_same c.args.case (get_or ps i 0) (get_or ns i 0) ≡ false = cc in
          sym (prefix_stops c.args.case ps ns i (omega arith) (omega arith) differ) ∙ c.loop-i.invariant
    ]

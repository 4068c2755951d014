use Rattle.std.proofs.Common.{rules, ◌≡◌, true, false, [], ◌∷◌, refl, subst, ap, ◌∙◌}
use Rattle.java_types.specs.Entries.{is_declared}
use Rattle.java_supers.specs.Keeping.{has_mark, AreKept}
use Rattle.java_supers.proofs.Noting.{in-hand-holds, kept-holds, undeclared-holds}
use Rattle.java_supers.proofs.looking.Looking.answer.Goals as goal

pub returns-then-has_mark-clause-value : goal.returns-then-has_mark-clause-value
returns-then-has_mark-clause-value c = λ a h.
    in-hand-holds c.args.self.now c.note.new.self [] (c.args.t ∷ []) c.in_ok-note.ensures.noted a h c.args.t c.args.name.now _ c.requires refl c.new.ensures

pub returns-then-not-has-clause-value : goal.returns-then-not-has-clause-value
returns-then-not-has-clause-value c = λ a h.
    let past : is_declared c.self.inside.env.now c.args.t ≡ false = search rules in
    undeclared-holds c.args.self.now a c.args.t c.args.name.now _ h c.requires (subst (λ e. is_declared e c.args.t ≡ false) (ap (λ l. l.env) c.self.view_is) past) c.new-then-not-has.ensures

pub returns-clause-value : goal.returns-clause-value
returns-clause-value c = λ a h.
    kept-holds c.args.self.now c.note-2.new.self c.as_slice.result.now c.as_slice-2.result.now c.in_ok-note-2.ensures.noted a h c.self.inside.marks.now c.self.inside.memory.now.kept c.args.t c.args.name.now
    c.in-Some.kept.now _ (subst (λ t. has_mark c.self.inside.marks.now t ≡ true) (ap (λ l. l.of) c.self.view_is) c.self.invariant.1)
    (subst (λ e. AreKept e c.self.inside.memory.now.kept) (ap (λ l. l.env) c.self.view_is) c.self.invariant.0) c.in-Some.ensures c.as_slice.ensures c.as_slice-2.ensures
    (c.in_ok-from_slice.ensures ∙ c.as_slice-3.ensures)

-- What is read of a type, by the depth that is left.
use Rattle.std.proofs.Common.{◌≡◌, ℕ, zero, suc, ◌-◌, ◌<◌, ◌≤◌, ◌++◌, [], ◌∷◌, List, length, Bool, true, false, cond, Option, Some, leb, eqb, refl, sym, ap, ◌∙◌, arith, slice_set}
use Rattle.std.proofs.lemmas.Bool.{le-leb, lt-leb, leb-true, leb-false, eq-eqb, eqb-true}
use Rattle.java_tree.specs.declared.unit.Member.{Member}
use Rattle.java_tree.specs.declared.unit.TypeDecl.{TypeDecl}
use Rattle.java_tree.specs.declared.unit.TypeHead.{TypeHead}
use Rattle.java_tree.specs.declared.unit.TypePlace.{TypePlace}
use Rattle.java_unit_reading.specs.Reading.Steps.{State, state, Outcome, Done, Fail, and_then, brace}
use Rattle.java_unit_reading.specs.Reading.Nested.{Exprs, Parts}
use Rattle.java_unit_reading.specs.Reading.Members.{head, unfinished, begun, members_of, type_body, type_decl}
use Rattle.java_unit_reading.specs.Reading.Units.{parts}

module _ (E : Exprs) where
  -- with no depth left
  pub none_left : (left depth : ℕ) (place : TypePlace) (w : Option ℕ) (s : State) → left ≡ 0 → (parts E depth).type left place w s ≡ Fail
  unfolding parts
  none_left left zero place w s h = refl
  none_left left (suc n) place w s h = rw (le-leb left n (omega (arith, h))) (none_left left n place w s h)

  not_top : (left n : ℕ) → suc n < left → (b : Bool) → eqb left (suc n) ≡ b → b ≡ false
  not_top left n h false e = refl
  not_top left n h true e = let same = eqb-true left (suc n) e in absurd (omega arith)

  -- with more than there is around it
  pub too_much : (left depth : ℕ) (place : TypePlace) (w : Option ℕ) (s : State) → depth < left → (parts E depth).type left place w s ≡ Fail
  unfolding parts
  too_much left zero place w s h = refl
  too_much left (suc n) place w s h =
      rw (lt-leb left n (omega arith), not_top left n h (eqb left (suc n)) refl) refl

  -- by whether more of it is left around the place
  by_left : (left n : ℕ) (place : TypePlace) (w : Option ℕ) (s : State) → 0 < left → left ≤ suc n
      → (left ≤ n → (parts E n).type left place w s ≡ type_decl E (parts E (left - 1)) (left - 1) place w s)
      → (b : Bool) → leb left n ≡ b → (parts E (suc n)).type left place w s ≡ type_decl E (parts E (left - 1)) (left - 1) place w s
  unfolding parts
  by_left left n place w s h k again true e = rw e (again (leb-true left n e))
  by_left left n place w s h k again false e =
      let over = leb-false left n e in
      let top : left ≡ suc n = omega arith in
      let less : n ≡ left - 1 = omega arith in
      rw (e, eq-eqb left (suc n) top) (ap (λ m. type_decl E (parts E m) m place w s) less)

  -- with some that is left
  pub some_left : (left depth : ℕ) (place : TypePlace) (w : Option ℕ) (s : State) → 0 < left
      → left ≤ depth
      → (parts E depth).type left place w s ≡ type_decl E (parts E (left - 1)) (left - 1) place w s
  some_left left zero place w s h k = absurd (omega arith)
  some_left left (suc n) place w s h k = by_left left n place w s h k (λ m. some_left left n place w s h m) (leb left n) refl

  module _ (d : ℕ) (place : TypePlace) (w : Option ℕ) where
    -- a type, by its parts
    pub type_parts : (s s1 s2 s3 s4 : State) (h : TypeHead) (at number : ℕ) (ms : List Member)
        → head place s ≡ Done h s1 → brace s1 ≡ Done at s2 → begun s2 ≡ Done number s3
        → members_of E (parts E d) d h number s3 ≡ Done ms s4
        → type_decl E (parts E d) d place w s ≡ Done at (state (slice_set s4.types number (record { parent = w; place = place; head = h; brace = at; members = ms })) s4.tokens)
    unfolding type_decl type_body
    type_parts s s1 s2 s3 s4 h at number ms e f g k =
        let begins : Done (length s2.types) (state (s2.types ++ unfinished ∷ []) s2.tokens) ≡ Done number s3 = g in
        let n : length s2.types ≡ number = cc in
        let t : state (s2.types ++ unfinished ∷ []) s2.tokens ≡ s3 = cc in
        rw (e, f, n, t, k) refl

    pub no_head : (s : State) → head place s ≡ Fail → type_decl E (parts E d) d place w s ≡ Fail
    unfolding type_decl
    no_head s e = rw e refl

    pub no_brace : (s s1 : State) (h : TypeHead) → head place s ≡ Done h s1 → brace s1 ≡ Fail → type_decl E (parts E d) d place w s ≡ Fail
    unfolding type_decl
    no_brace s s1 h e f = rw (e, f) refl

    pub no_members : (s s1 s2 s3 : State) (h : TypeHead) (at number : ℕ) → head place s ≡ Done h s1
        → brace s1 ≡ Done at s2 → begun s2 ≡ Done number s3
        → members_of E (parts E d) d h number s3 ≡ Fail → type_decl E (parts E d) d place w s ≡ Fail
    unfolding type_decl type_body
    no_members s s1 s2 s3 h at number e f g k =
        let begins : Done (length s2.types) (state (s2.types ++ unfinished ∷ []) s2.tokens) ≡ Done number s3 = g in
        let n : length s2.types ≡ number = cc in
        let t : state (s2.types ++ unfinished ∷ []) s2.tokens ≡ s3 = cc in
        rw (e, f, n, t, k) refl

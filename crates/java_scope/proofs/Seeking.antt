-- The innermost variable or field of a name.
use Rattle.std.proofs.Common.{◌≡◌, ◌+◌, ◌-◌, ◌<◌, ◌≤◌, ℕ, suc, Bool, true, false, cond, List, Option, Some, None, ◌⊎◌, inl, inr, length, take, refl, sym, ap, ◌∙◌, arith, true≢false, bytes_eq}
use Rattle.std.specs.Prelude.{slice_get, is_some}
use Rattle.std.specs.Option.{option_or}
use Rattle.std.proofs.lemmas.Bool.{cases_lt}
use Rattle.std.proofs.lemmas.List.{take_all}
use Rattle.std.proofs.lemmas.Option.{none-some, same_Some, slice_get_within}
use Rattle.java_tree.specs.declared.bound.Bound.{Bound}
use Rattle.java_tree.specs.declared.bound.Bound.TheVariants as bounds
use Rattle.java_tree.specs.declared.types.NameKind.{NameKind}
use Rattle.java_tree.specs.declared.types.NameKind.TheVariants as kinds
use Rattle.java_model.specs.Names.Lists.{Identifier}
use Rattle.java_model.specs.Names.Environments.{Env}
use Rattle.java_model.specs.Scopes.Contexts.{innermost}
use Rattle.java_model.specs.Scopes.NameKinds.{variable_at}
use Rattle.java_scope.specs.Linked.{is_body, is_variable, upto, IsLast, Skips}
use Rattle.java_scope.proofs.Arounds.{all_innermost}
use Rattle.java_scope.proofs.Gathering.{options, one_next, skipped}

nothing : (env : Env) (name : Identifier) (b : Bound) → is_variable name b ≡ false → is_body b ≡ false → variable_at env name b ≡ None
nothing env name (bounds.Variable n t) e f = ap (λ c. cond c (Some (kinds.Local t)) None) e
nothing env name (bounds.Members t) e f = absurd (true≢false f)
nothing env name (bounds.Class t) e f = refl
nothing env name (bounds.Arguments t) e f = refl

no_variable : (env : Env) (name : Identifier) (b : Bound) → variable_at env name b ≡ None → is_variable name b ≡ false
no_variable env name (bounds.Variable n t) e = by (bytes_eq name n) e
  where
    by : (c : Bool) → cond {A = Option NameKind} c (Some (kinds.Local t)) None ≡ None → c ≡ false
    by true e = absurd (none-some (kinds.Local t) (sym e))
    by false e = refl
no_variable env name (bounds.Members t) e = refl
no_variable env name (bounds.Class t) e = refl
no_variable env name (bounds.Arguments t) e = refl

no_answer : {A : Type 0} (o : Option A) → is_some o ≡ false → None ≡ o
no_answer None e = refl
no_answer (Some x) e = absurd (true≢false e)

-- the bounds up to the greater of two places
abbrev pub most : Option ℕ → Option ℕ → ℕ
most v b = upto v + (upto b - upto v)

pub most_of : (v b r : Option ℕ) → upto v ≤ upto r → upto b ≤ upto r → (r ≡ v) ⊎ (r ≡ b) → upto r ≡ most v b
most_of v b r above over one = elim one as (λ _. upto r ≡ most v b) [
  | inl e ↦ let s = ap upto e in omega (arith, above, over, s)
  | inr e ↦ let s = ap upto e in omega (arith, above, over, s)
]

-- The variable of the name, and none of the bounds after a place and the variable is one.
pub record Seeks (env : Env) (name : Identifier) (bs : List Bound) (variable body : Option ℕ) : Type 0 where
  pub is : IsLast (is_variable name) bs (length bs) variable
  pub within : upto body ≤ length bs
  pub same : innermost (variable_at env name) (take (most variable body) bs) ≡ innermost (variable_at env name) bs

module _ (env : Env) (name : Identifier) (bs : List Bound) (variable : Option ℕ) where
  pub starts : (body : Option ℕ) → IsLast (is_variable name) bs (length bs) variable → Skips is_body bs (length bs) body → Seeks env name bs variable body
  starts body is skips = let v = is.skips.within in let b = skips.within in record {
    is = is;
    within = b;
    same = sym (skipped (options NameKind) (variable_at env name) (innermost (variable_at env name)) (all_innermost (variable_at env name)) bs (most variable body) (length bs) (omega (arith, v, b)) (omega arith)
        (λ i c low high at. nothing env name c (is.skips.none i c (omega (arith, low)) high at) (skips.none i c (omega (arith, low)) high at)))
        ∙ ap (innermost (variable_at env name)) (take_all (length bs) bs (omega arith));
  }

  module _ (body : Option ℕ) (seeks : Seeks env name bs variable body) (next : Option ℕ) (above : upto variable ≤ upto next) (over : upto body ≤ upto next) (one : (next ≡ variable) ⊎ (next ≡ body)) where
    pub has_place : (p : ℕ) → next ≡ Some p → p < length bs
    has_place p e =
        let m = most_of variable body next above over one in let v = seeks.is.skips.within in let b = seeks.within in let s = ap upto e in omega (arith, m, v, b, s)

    whole : (p : ℕ) → next ≡ Some p → innermost (variable_at env name) (take (suc p) bs) ≡ innermost (variable_at env name) bs
    whole p e =
        let m = most_of variable body next above over one in
        ap (λ n. innermost (variable_at env name) (take n bs)) (sym (ap upto e) ∙ m) ∙ seeks.same

    pub finds : (p : ℕ) (b : Bound) (kind : NameKind) → next ≡ Some p → slice_get bs p ≡ Some b → Some kind ≡ variable_at env name b → Some kind ≡ innermost (variable_at env name) bs
    finds p b kind e at is =
        sym (sym (whole p e)
        ∙ one_next (options NameKind) (variable_at env name) (innermost (variable_at env name)) (all_innermost (variable_at env name)) bs p b at
        ∙ ap (λ o. option_or o (innermost (variable_at env name) (take p bs))) (sym is))

    pub finds_some : (p : ℕ) (b : Bound) (found : Option NameKind) → next ≡ Some p → slice_get bs p ≡ Some b → is_some found ≡ true → found ≡ variable_at env name b
        → found ≡ innermost (variable_at env name) bs
    finds_some p b None e at some is = absurd (true≢false (sym some))
    finds_some p b (Some kind) e at some is = finds p b kind e at is

    module _ (p : ℕ) (b : Bound) (e : next ≡ Some p) (at : slice_get bs p ≡ Some b) (found : Option NameKind) (empty : is_some found ≡ false) (is : found ≡ variable_at env name b)
        (body' : Option ℕ) (skips : Skips is_body bs p body') where
      none : None ≡ variable_at env name b
      none = no_answer found empty ∙ is

      other : upto variable ≤ p
      other = by variable refl
        where
          by : (v : Option ℕ) → variable ≡ v → upto variable ≤ p
          by None q = let s = ap upto q in omega (arith, s)
          by (Some n) q = elim (cases_lt n p) as (λ _. upto variable ≤ p) [
            | inl lt ↦ let s = ap upto q in omega (arith, s, lt)
            | inr le ↦
                let s = ap upto q in let t = ap upto e in let same : p ≡ n = omega (arith, s, t, above, le) in
                absurd (true≢false (sym (seeks.is.passes n b q (ap (slice_get bs) (sym same) ∙ at)) ∙ no_variable env name b (sym none)))
          ]

      pub smaller : upto body' < upto next
      smaller = let w = skips.within in let s = ap upto e in omega (arith, w, s)

      pub goes_on : Seeks env name bs variable body'
      goes_on = let o = other in let w = skips.within in let h = slice_get_within bs p b at in record {
        is = seeks.is;
        within = omega (arith, w, h);
        same = sym (skipped (options NameKind) (variable_at env name) (innermost (variable_at env name)) (all_innermost (variable_at env name)) bs (most variable body') (suc p) (omega (arith, o, w)) (omega (arith, h))
            (λ i c low high here. elim (cases_lt i p) as (λ _. variable_at env name c ≡ None) [
              | inl lt ↦ nothing env name c (seeks.is.skips.none i c (omega (arith, low)) (omega (arith, lt, h)) here) (skips.none i c (omega (arith, low)) lt here)
              | inr le ↦ let q : i ≡ p = omega (arith, le, high) in ap (variable_at env name) (same_Some c b (sym here ∙ ap (slice_get bs) q ∙ at)) ∙ sym none
            ]))
            ∙ whole p e;
      }

      pub less : most variable body' < most variable body
      less = let o = other in let w = skips.within in let s = ap upto e in let m = most_of variable body next above over one in omega (arith, o, w, s, m)

    pub ends : next ≡ None → None ≡ innermost (variable_at env name) bs
    ends e =
        let m = most_of variable body next above over one in
        sym (sym seeks.same ∙ ap (λ n. innermost (variable_at env name) (take n bs)) (sym m ∙ ap upto e))

-- The body of an anonymous class is the run from its `{` to the matching `}`, so an expression that stands
-- in a unit stands by itself too.
use Rattle.std.proofs.Common.{◌≡◌, ℕ, zero, suc, List, [], ◌∷◌, ◌++◌, Some, None, map, refl, sym, ap, ◌∙◌, subst}
use Rattle.std.proofs.lemmas.List.{append-nil}
use Rattle.java_tree.specs.declared.mark.Mark.TheVariants as marks
use Rattle.java_tree.specs.declared.expr.Expr.{Expr}
use Rattle.java_tree.specs.declared.unit.TypeDecl.{TypeDecl}
use Rattle.java_tree.specs.declared.unit.TypeHead.{TypeHead}
use Rattle.java_tree.specs.declared.unit.TypeHead.TheVariants as heads
use Rattle.java_tree.specs.declared.unit.TypePlace.TheVariants as places
use Rattle.java_model.specs.Grammar.Signs.{Sign, mark, left_brace, this, super, word, literal, stray}
use Rattle.java_model.specs.Grammar.Pieces.{Piece, token, hole, Hole, the, Around, each}
use Rattle.java_model.specs.Grammar.Runs.{after_body, Reads}
use Rattle.java_model.specs.Grammar.YieldExpr.{yield_expr}
use Rattle.java_model.specs.Grammar.YieldUnit.{yield_head, yield_member, yield_type_decl, inside}
use Rattle.java_model.specs.Grammar.Expressions.{IsExpr}
use Rattle.java_model.specs.Grammar.Units.{IsHead, IsTypeDecl, Stage, stage, Spells, spells_nothing, spells_token, spells_type}
use Rattle.java_model.specs.Grammar.Braces.{open_behind, IsBalanced, AreAnonymous}
use Rattle.java_model.proofs.Grammar.Kept.{IsKept, nested_closed}
use Rattle.java_model.proofs.Grammar.Reads.{spells_split, spells_token_of}
use Rattle.java_model.proofs.Grammar.BalancedUnit.{type_members_closed, type_closed}

anonymous_both : (xs ys : List Piece) → AreAnonymous xs → AreAnonymous ys → AreAnonymous (xs ++ ys)
anonymous_both [] ys h g = g
anonymous_both (token s ∷ xs) ys h g = anonymous_both xs ys h g
anonymous_both (hole k ∷ xs) ys h g = (h.0, anonymous_both xs ys h.1 g)

anonymous_law : IsKept AreAnonymous
anonymous_law = record {
  nothing = tt;
  both = anonymous_both;
  next = λ x ps h g. g;
  braced = λ at ps h. anonymous_both ps _ h tt;
  anonymous = λ h e. (e, tt);
}

-- an expression declares anonymous classes alone
pub expr_anonymous : (d : ℕ) (x : Expr) → IsExpr d x → (a : Around) → AreAnonymous (yield_expr x a)
expr_anonymous d x h a = let keeps = nested_closed AreAnonymous anonymous_law d in keeps.expr x h a

none_is_not_some : (e : ℕ) → None ≡ Some e → ⊥
none_is_not_some e h = cc

-- One token: what is open behind the pieces that follow it, and what follows the token.
after_token : {C : Type 0} (x : Sign) (ps : List Piece) (ts : List Sign) (d e : ℕ) → open_behind (token x ∷ ps) d ≡ Some e
    → ((k : ℕ) → open_behind ps k ≡ Some e → after_body (x ∷ ts) d ≡ after_body ts k → C) → C
after_token (left_brace at) ps ts d e h k = k (suc d) h refl
after_token (mark marks.RightBrace) ps ts zero e h k = absurd (none_is_not_some e h)
after_token (mark marks.RightBrace) ps ts (suc d) e h k = k d h refl
after_token (mark m) ps ts d e h k = k d h refl
after_token (this s) ps ts d e h k = k d h refl
after_token (super s) ps ts d e h k = k d h refl
after_token (word i) ps ts d e h k = k d h refl
after_token (literal l) ps ts d e h k = k d h refl
after_token stray ps ts d e h k = k d h refl

balanced_opens : (ps : List Piece) → IsBalanced ps → (d : ℕ) → open_behind ps d ≡ Some d
balanced_opens ps h d = ap (λ qs. open_behind qs d) (sym (append-nil ps)) ∙ h.keeps d []

same_open : (d e : ℕ) → Some d ≡ Some e → d ≡ e
same_open d e h = cc

-- What is skipped before pieces is skipped behind them, with as many braces open as they leave open.
pub spells_open : (ps : List Piece) (s t : Stage) → Spells ps s t → (d e : ℕ) → open_behind ps d ≡ Some e → after_body s.tokens d ≡ after_body t.tokens e
spells_open [] s t (spells_nothing _) d e h = ap (after_body s.tokens) (same_open d e h)
spells_open (token x ∷ ps) s t (spells_token _ _ tokens _ _ eq g) d e h =
    after_token x ps tokens d e h (λ k opened skip. ap (λ ts. after_body ts d) eq ∙ skip ∙ spells_open ps _ t g k e opened)
spells_open (hole k ∷ ps) s t (spells_type _ _ c types _ m _ eq shape g rest) d e h =
    spells_open (yield_type_decl s.number k c) _ m g d d (balanced_opens _ (type_closed s.number k c shape) d) ∙ spells_open ps m t rest d e h

-- no piece is left behind the last one
spells_none : (s t : Stage) → Spells [] s t → s.tokens ≡ t.tokens
spells_none s t (spells_nothing _) = refl

tail_of : (x y : Sign) (xs ys : List Sign) → (x ∷ xs) ≡ (y ∷ ys) → xs ≡ ys
tail_of x y xs ys e = cc

-- from a `{` on, balanced pieces and a `}` are the run up to the matching `}`
run_of : (ps : List Piece) (n : ℕ) (types : List TypeDecl) (ts : List Sign) (t : Stage) → IsBalanced ps
    → Spells (ps ++ the marks.RightBrace ∷ []) (stage n types ts) t → after_body ts zero ≡ t.tokens
run_of ps n types ts t h g =
    spells_split ps (the marks.RightBrace ∷ []) (stage n types ts) t g (λ m inner last.
    spells_token_of (mark marks.RightBrace) [] m t last (λ us e done.
    spells_open ps (stage n types ts) m inner zero zero (balanced_opens ps h zero) ∙ ap (λ vs. after_body vs zero) e ∙ spells_none _ t done))

-- the body of an anonymous class has no head
no_head : (head : TypeHead) → IsHead places.Anonymous head → yield_head head ≡ []
no_head (heads.Class c) h = absurd h
no_head (heads.Interface i) h = absurd h
no_head heads.Anonymous h = refl

abbrev IsRun : Hole → List Sign → List Sign → Type 0
IsRun h ts us = (vs : List Sign) × (ts ≡ left_brace h.brace ∷ vs) × (after_body vs zero ≡ us)

-- an anonymous class stands in the run from its `{` to the matching `}`
pub body_is_run : (n : ℕ) (h : Hole) (c : TypeDecl) (s t : Stage) → h.place ≡ places.Anonymous → IsTypeDecl h c
    → Spells (yield_type_decl n h c) s t → IsRun h s.tokens t.tokens
body_is_run n h c s t e is g =
    let inner = each (map yield_member c.members) (inside n h) in
    let headless = subst (λ head. Spells (head ++ token (left_brace c.brace) ∷ (inner ++ the marks.RightBrace ∷ [])) s t)
    (no_head c.head (subst (λ p. IsHead p c.head) e is.head)) g in
    spells_token_of (left_brace c.brace) (inner ++ the marks.RightBrace ∷ []) s t headless
    (λ vs eq rest. (vs, eq ∙ ap (λ b. left_brace b ∷ vs) is.brace, run_of inner s.number s.types vs t (type_members_closed n h c is) rest))

-- pieces that stand in a unit, with anonymous classes alone, stand by themselves
pub alone : (ps : List Piece) (s t : Stage) → AreAnonymous ps → Spells ps s t → Reads ps s.tokens t.tokens
alone [] s t h (spells_nothing _) = refl
alone (token x ∷ ps) s t h (spells_token _ _ tokens _ _ e g) = (tokens, e, alone ps _ t h g)
alone (hole k ∷ ps) s t h (spells_type _ _ c types _ m _ e shape g rest) =
    let r = body_is_run s.number k c _ m h.0 shape g in
    (r.0, r.1, subst (λ ts. Reads ps ts t.tokens) (sym r.2) (alone ps m t h.1 rest))

-- The `{` of the types of a unit stand among its tokens, each once and in the order of the types.
use Rattle.std.proofs.Common.{◌≡◌, ℕ, List, [], ◌∷◌, ◌++◌, Option, Some, None, refl, sym, subst}
use Rattle.java_tree.specs.declared.mark.Mark.{Mark}
use Rattle.java_tree.specs.declared.mark.Mark.TheVariants as marks
use Rattle.java_tree.specs.declared.names.Ident.{Ident}
use Rattle.java_tree.specs.declared.names.Modifier.{Modifier}
use Rattle.java_tree.specs.declared.unit.TypeDecl.{TypeDecl}
use Rattle.java_tree.specs.declared.unit.TypeHead.{TypeHead}
use Rattle.java_tree.specs.declared.unit.TypeHead.TheVariants as heads
use Rattle.java_tree.specs.declared.unit.Unit.{Unit as CompilationUnit}
use Rattle.java_model.specs.Grammar.Signs.{Sign, mark, left_brace, this, super, word, literal, stray}
use Rattle.java_model.specs.Grammar.Pieces.{Piece, token, hole, Hole, dotted, yield_name, names_behind}
use Rattle.java_model.specs.Grammar.YieldUnit.{yield_modifiers, yield_clause, yield_superclass, yield_head, yield_type_decl}
use Rattle.java_model.specs.Grammar.Units.{Stage, stage, Spells, spells_nothing, spells_token, spells_type, IsUnitOf}
use Rattle.java_model.specs.Grammar.Braces.{left_braces, braces_of, IsSublist, none_of, takes, skips}

-- tokens alone
abbrev pub HasNoHole : List Piece → Type 0
HasNoHole [] = Unit {0}
HasNoHole (token s ∷ ps) = HasNoHole ps
HasNoHole (hole h ∷ ps) = ⊥

no_hole_both : (ps qs : List Piece) → HasNoHole ps → HasNoHole qs → HasNoHole (ps ++ qs)
no_hole_both [] qs h g = g
no_hole_both (token s ∷ ps) qs h g = no_hole_both ps qs h g
no_hole_both (hole k ∷ ps) qs h g = absurd h

no_hole_dotted : (n : List Ident) → HasNoHole (dotted n)
no_hole_dotted [] = tt
no_hole_dotted (i ∷ n) = no_hole_dotted n

no_hole_name : (n : List Ident) → HasNoHole (yield_name n)
no_hole_name [] = tt
no_hole_name (i ∷ n) = no_hole_dotted n

no_hole_behind : (ns : List (List Ident)) → HasNoHole (names_behind ns)
no_hole_behind [] = tt
no_hole_behind (n ∷ ns) = no_hole_both (yield_name n) (names_behind ns) (no_hole_name n) (no_hole_behind ns)

no_hole_clause : (m : Mark) (ns : List (List Ident)) → HasNoHole (yield_clause m ns)
no_hole_clause m [] = tt
no_hole_clause m (n ∷ ns) = no_hole_both (yield_name n) (names_behind ns) (no_hole_name n) (no_hole_behind ns)

no_hole_modifiers : (ms : List Modifier) → HasNoHole (yield_modifiers ms)
no_hole_modifiers [] = tt
no_hole_modifiers (m ∷ ms) = no_hole_modifiers ms

no_hole_superclass : (n : Option (List Ident)) → HasNoHole (yield_superclass n)
no_hole_superclass None = tt
no_hole_superclass (Some n) = no_hole_name n

pub no_hole_head : (head : TypeHead) → HasNoHole (yield_head head)
no_hole_head (heads.Class c) =
    no_hole_both (yield_modifiers c.modifiers) _ (no_hole_modifiers c.modifiers)
    (no_hole_both (yield_superclass c.extends) _ (no_hole_superclass c.extends) (no_hole_clause marks.Implements c.implements))
no_hole_head (heads.Interface i) = no_hole_both (yield_modifiers i.modifiers) _ (no_hole_modifiers i.modifiers) (no_hole_clause marks.Extends i.extends)
no_hole_head heads.Anonymous = tt

skip_sign : (x : Sign) (xs : List ℕ) (ts : List Sign) → IsSublist xs (left_braces ts) → IsSublist xs (left_braces (x ∷ ts))
skip_sign (mark m) xs ts h = h
skip_sign (left_brace at) xs ts h = skips at xs _ h
skip_sign (this s) xs ts h = h
skip_sign (super s) xs ts h = h
skip_sign (word i) xs ts h = h
skip_sign (literal l) xs ts h = h
skip_sign stray xs ts h = h

abbrev Within : Stage → Type 0
Within s = IsSublist (braces_of s.types) (left_braces s.tokens)

-- Both at once, by induction on how the pieces stand: the types that are left, and these behind the `{`
-- of one more type, which the pieces yield behind tokens alone.
record Stands (ps : List Piece) (s : Stage) : Type 0 where
  left : Within s
  opened : (hs rest : List Piece) (brace : ℕ) → HasNoHole hs → ps ≡ hs ++ token (left_brace brace) ∷ rest
      → IsSublist (brace ∷ braces_of s.types) (left_braces s.tokens)

never_empty : (brace : ℕ) (hs rest : List Piece) → [] ≡ hs ++ token (left_brace brace) ∷ rest → ⊥
never_empty brace [] rest e = cc
never_empty brace (p ∷ hs) rest e = cc

same_sign : (x y : Sign) (ps qs : List Piece) → (token x ∷ ps) ≡ (token y ∷ qs) → x ≡ y
same_sign x y ps qs e = cc

same_rest : (p q : Piece) (ps qs : List Piece) → (p ∷ ps) ≡ (q ∷ qs) → ps ≡ qs
same_rest p q ps qs e = cc

opened_token : (x : Sign) (ps : List Piece) (n : ℕ) (types : List TypeDecl) (tokens : List Sign) → Stands ps (stage n types tokens)
    → (hs rest : List Piece) (brace : ℕ) → HasNoHole hs → (token x ∷ ps) ≡ hs ++ token (left_brace brace) ∷ rest
    → IsSublist (brace ∷ braces_of types) (left_braces (x ∷ tokens))
opened_token x ps n types tokens r [] rest brace nh e =
    subst (λ y. IsSublist (brace ∷ braces_of types) (left_braces (y ∷ tokens))) (sym (same_sign x (left_brace brace) ps rest e))
    (takes brace (braces_of types) (left_braces tokens) r.left)
opened_token x ps n types tokens r (token y ∷ hs) rest brace nh e =
    skip_sign x _ tokens (r.opened hs rest brace nh (same_rest _ _ _ _ e))
opened_token x ps n types tokens r (hole h ∷ hs) rest brace nh e = absurd nh

hole_is_no_token : (h : Hole) (y : Sign) (ps qs : List Piece) → (hole h ∷ ps) ≡ (token y ∷ qs) → ⊥
hole_is_no_token h y ps qs e = cc

opened_hole : {A : Type 0} (h : Hole) (ps hs rest : List Piece) (brace : ℕ) → HasNoHole hs → (hole h ∷ ps) ≡ hs ++ token (left_brace brace) ∷ rest → A
opened_hole h ps [] rest brace nh e = absurd (hole_is_no_token h (left_brace brace) ps rest e)
opened_hole h ps (token y ∷ hs) rest brace nh e = absurd (hole_is_no_token h y ps _ e)
opened_hole h ps (hole k ∷ hs) rest brace nh e = absurd nh

spells_stands : (ps : List Piece) (s t : Stage) → Spells ps s t → Within t → Stands ps s
spells_stands [] s t (spells_nothing _) w = record { left = w; opened = λ hs rest brace nh e. absurd (never_empty brace hs rest e) }
spells_stands (token x ∷ ps) s t (spells_token _ _ tokens _ _ e g) w =
    let r = spells_stands ps _ t g w in record {
      left = subst (λ ts. IsSublist (braces_of s.types) (left_braces ts)) (sym e) (skip_sign x (braces_of s.types) tokens r.left);
      opened = λ hs rest brace nh eq.
          subst (λ ts. IsSublist (brace ∷ braces_of s.types) (left_braces ts)) (sym e)
          (opened_token x ps s.number s.types tokens r hs rest brace nh eq);
    }
spells_stands (hole h ∷ ps) s t (spells_type _ _ d types _ m _ e shape g rest) w =
    let after = spells_stands ps m t rest w in
    let within = spells_stands (yield_type_decl s.number h d) _ m g after.left in record {
      left = subst (λ ds. IsSublist (braces_of ds) (left_braces s.tokens)) (sym e) (within.opened (yield_head d.head) _ d.brace (no_hole_head d.head) refl);
      opened = λ hs rest brace nh eq. opened_hole h ps hs rest brace nh eq;
    }

pub unit_braces : (tokens : List Sign) (u : CompilationUnit) → IsUnitOf tokens u → IsSublist (braces_of u.types) (left_braces tokens)
unit_braces tokens u h = let r = spells_stands _ _ _ h.spells (none_of []) in r.left

-- A text has at most one outline.
use Rattle.std.proofs.Common.{◌≡◌, ℕ, zero, suc, ◌+◌, ◌<◌, ◌≤◌, List, [], ◌∷◌, ◌++◌, Some, length, slice_get, slice_index_or, Contains, refl, sym, ap, ◌∙◌, subst, append_assoc, length-append, arith}
use Rattle.std.proofs.lemmas.List.{append-nil}
use Rattle.java_tree.specs.declared.outline.ImportName.{ImportName}
use Rattle.java_tree.specs.declared.outline.Level.{Level}
use Rattle.java_tree.specs.declared.outline.Outline.{Outline}
use Rattle.java_tree.specs.declared.outline.OutlineType.{OutlineType}
use Rattle.java_tree.specs.declared.unit.TypeDecl.{TypeDecl}
use Rattle.java_tree.specs.declared.unit.Unit.{Unit as CompilationUnit}
use Rattle.java_model.specs.Grammar.Braces.{left_braces, braces_of}
use Rattle.java_model.specs.Grammar.Pieces.{Piece, token, hole, Hole}
use Rattle.java_model.specs.Grammar.Runs.{holes_of}
use Rattle.java_model.specs.Grammar.Signs.{Sign, signs}
use Rattle.java_model.specs.Grammar.Units.{Stage, stage, Spells, spells_nothing, spells_token, spells_type, IsUnitOf}
use Rattle.java_model.specs.Grammar.YieldUnit.{yield_type_decl, yield_unit}
use Rattle.java_model.specs.Outlines.{IsHoleOf, in_unit, in_type, IsOutline, IsOutlineType, AreOutlineTypes, outline_type}
use Rattle.java_model.specs.Texts.{IsUnitOfText, HasOutline}
use Rattle.java_model.proofs.Grammar.Braces.{unit_braces}
use Rattle.java_model.proofs.Lexical.Laws.{tokens_are_unique}
use Rattle.java_document.proofs.Rising.{Above, sub_above, text_above}

-- a hole is one of these
data IsAmong : List Hole → Hole → Type 0 where
  among_first : (k h : Hole) (hs : List Hole) → k ≡ h → IsAmong (k ∷ hs) h
  among_later : (k h : Hole) (hs : List Hole) → IsAmong hs h → IsAmong (k ∷ hs) h

among : (hs : List Hole) (h : Hole) (i : ℕ) → i < length hs → slice_index_or hs i h ≡ h → IsAmong hs h
among [] h i l e = absurd (omega (arith, l))
among (k ∷ hs) h zero l e = among_first k h hs e
among (k ∷ hs) h (suc i) l e = among_later k h hs (among hs h i (omega (arith, l)) e)

is_among : (hs : List Hole) (h : Hole) → Contains hs h → IsAmong hs h
is_among hs h c = among hs h c.0 c.1 c.2

among_left : (hs gs : List Hole) (h : Hole) → IsAmong hs h → IsAmong (hs ++ gs) h
among_left [] gs h i = elim i [ ]
among_left (k ∷ hs) gs h (among_first _ _ _ e) = among_first k h (hs ++ gs) e
among_left (k ∷ hs) gs h (among_later _ _ _ i) = among_later k h (hs ++ gs) (among_left hs gs h i)

among_right : (hs gs : List Hole) (h : Hole) → IsAmong gs h → IsAmong (hs ++ gs) h
among_right [] gs h i = i
among_right (k ∷ hs) gs h i = among_later k h (hs ++ gs) (among_right hs gs h i)

-- ---- the holes of a unit, in the order of its types

-- A hole in which this type stands, the one of this number, has its brace, and the holes of the type are among all.
record HoldsType (all : List Hole) (number : ℕ) (k : Hole) (d : TypeDecl) : Type 0 where
  brace : d.brace ≡ k.brace
  gives : (h : Hole) → IsAmong (holes_of (yield_type_decl number k d)) h → IsAmong all h

-- a hole for each type, in order
abbrev HoldTypes : List Hole → ℕ → List Hole → List TypeDecl → Type 0
HoldTypes all n [] [] = Unit {0}
HoldTypes all n (k ∷ hs) (d ∷ ds) = HoldsType all n k d × HoldTypes all (suc n) hs ds
HoldTypes all n _ _ = ⊥

more_hold : (all more : List Hole) (n : ℕ) (hs : List Hole) (ds : List TypeDecl) → ((h : Hole) → IsAmong all h → IsAmong more h) → HoldTypes all n hs ds → HoldTypes more n hs ds
more_hold all more n [] [] wider h = tt
more_hold all more n [] (d ∷ ds) wider h = absurd h
more_hold all more n (k ∷ hs) [] wider h = absurd h
more_hold all more n (k ∷ hs) (d ∷ ds) wider h =
    let own = h.0 in
    (record { brace = own.brace; gives = λ g i. wider g (own.gives g i) }, more_hold all more (suc n) hs ds wider h.1)

both_hold : (all : List Hole) (n m : ℕ) (hs gs : List Hole) (ds es : List TypeDecl) → m ≡ n + length ds → HoldTypes all n hs ds → HoldTypes all m gs es → HoldTypes all n (hs ++ gs) (ds ++ es)
both_hold all n m [] gs [] es e h g = let same : m ≡ n = omega (arith, e) in subst (λ i. HoldTypes all i gs es) same g
both_hold all n m [] gs (d ∷ ds) es e h g = absurd h
both_hold all n m (k ∷ hs) gs [] es e h g = absurd h
both_hold all n m (k ∷ hs) gs (d ∷ ds) es e h g = (h.0, both_hold all (suc n) m hs gs ds es (omega (arith, e)) h.1 g)

-- the holes of pieces with those of the types in them, and these types
record Listed (ps : List Piece) (s t : Stage) : Type 0 where
  holes : List Hole
  types : List TypeDecl
  left : s.types ≡ types ++ t.types
  number : t.number ≡ s.number + length types
  own : (h : Hole) → IsAmong (holes_of ps) h → IsAmong holes h
  hold : HoldTypes holes s.number holes types

own_both : (k h : Hole) (hs inner later : List Hole) → ((g : Hole) → IsAmong hs g → IsAmong later g) → IsAmong (k ∷ hs) h → IsAmong (k ∷ (inner ++ later)) h
own_both k h hs inner later f (among_first _ _ _ e) = among_first k h (inner ++ later) e
own_both k h hs inner later f (among_later _ _ _ i) = among_later k h (inner ++ later) (among_right inner later h (f h i))

-- a hole, with those of the type in it, before others
listed_type : (k : Hole) (ps : List Piece) (d : TypeDecl) (types : List TypeDecl) (s m t : Stage) → s.types ≡ d ∷ types → d.brace ≡ k.brace
    → Listed (yield_type_decl s.number k d) (stage (suc s.number) types s.tokens) m → Listed ps m t → Listed (hole k ∷ ps) s t
listed_type k ps d types s m t e brace inner later =
    let counts = length-append inner.types later.types in
    let into : (h : Hole) → IsAmong inner.holes h → IsAmong (k ∷ (inner.holes ++ later.holes)) h =
    λ h i. among_later k h (inner.holes ++ later.holes) (among_left inner.holes later.holes h i) in
    let onto : (h : Hole) → IsAmong later.holes h → IsAmong (k ∷ (inner.holes ++ later.holes)) h =
    λ h i. among_later k h (inner.holes ++ later.holes) (among_right inner.holes later.holes h i) in
    record {
      holes = k ∷ (inner.holes ++ later.holes);
      types = d ∷ (inner.types ++ later.types);
      left = e ∙ ap (λ ts. d ∷ ts) (inner.left ∙ ap (λ ts. inner.types ++ ts) later.left ∙ sym (append_assoc inner.types later.types t.types));
      number = omega (arith, inner.number, later.number, counts);
      own = λ h i. own_both k h (holes_of ps) inner.holes later.holes later.own i;
      hold = (
        record { brace = brace; gives = λ h i. into h (inner.own h i) },
        both_hold (k ∷ (inner.holes ++ later.holes)) (suc s.number) m.number inner.holes later.holes inner.types later.types inner.number
            (more_hold inner.holes (k ∷ (inner.holes ++ later.holes)) (suc s.number) inner.holes inner.types into inner.hold)
            (more_hold later.holes (k ∷ (inner.holes ++ later.holes)) m.number later.holes later.types onto later.hold),
      );
    }

listed : (ps : List Piece) (s t : Stage) → Spells ps s t → Listed ps s t
listed [] s t (spells_nothing _) = record { holes = []; types = []; left = refl; number = omega arith; own = λ h i. i; hold = tt }
listed (token x ∷ ps) s t (spells_token _ _ tokens _ _ e g) =
    let r = listed ps _ t g in
    record { holes = r.holes; types = r.types; left = r.left; number = r.number; own = r.own; hold = r.hold }
listed (hole h ∷ ps) s t (spells_type _ _ d types _ m _ e shape g rest) =
    listed_type h ps d types s m t e shape.brace (listed (yield_type_decl s.number h d) _ m g) (listed ps m t rest)

-- ---- rising braces

-- the place of a hole among all, with the type that stands in it
record TypeOf (all : List Hole) (n : ℕ) (ds : List TypeDecl) (k : Hole) : Type 0 where
  place : ℕ
  type_decl : TypeDecl
  at : slice_get ds place ≡ Some type_decl
  holds : HoldsType all (n + place) k type_decl

type_of : (all : List Hole) (n : ℕ) (hs : List Hole) (ds : List TypeDecl) (k : Hole) → HoldTypes all n hs ds → IsAmong hs k → TypeOf all n ds k
type_of all n [] ds h held i = elim i [ ]
type_of all n (k ∷ hs) [] h held (among_first _ _ _ e) = absurd held
type_of all n (k ∷ hs) [] h held (among_later _ _ _ i) = absurd held
type_of all n (k ∷ hs) (d ∷ ds) h held (among_first _ _ _ e) =
    let same : n ≡ n + zero = omega arith in
    record { place = zero; type_decl = d; at = refl; holds = subst (λ i. HoldsType all i h d) same (subst (λ g. HoldsType all n g d) e held.0) }
type_of all n (k ∷ hs) (d ∷ ds) h held (among_later _ _ _ i) =
    let r = type_of all (suc n) hs ds h held.1 i in
    let same : suc n + r.place ≡ n + suc r.place = omega arith in
    record { place = suc r.place; type_decl = r.type_decl; at = r.at; holds = subst (λ j. HoldsType all j h r.type_decl) same r.holds }

some_same : (d t : TypeDecl) → Some d ≡ Some t → d ≡ t
some_same d t e = cc

brace_from : (ds : List TypeDecl) (low p : ℕ) (d : TypeDecl) → Above low (braces_of ds) → slice_get ds p ≡ Some d → low ≤ d.brace
brace_from [] low p d a e = absurd cc
brace_from (x ∷ ds) low zero d a e = subst (λ t. low ≤ t.brace) (some_same x d e) a.0
brace_from (x ∷ ds) low (suc p) d a e = let first = a.0 in let more = brace_from ds (suc x.brace) p d a.1 e in omega (arith, first, more)

one_place : (ds : List TypeDecl) (low p q : ℕ) (d t : TypeDecl) → Above low (braces_of ds) → slice_get ds p ≡ Some d → slice_get ds q ≡ Some t → d.brace ≡ t.brace → p ≡ q
one_place [] low p q d t a e f b = absurd cc
one_place (x ∷ ds) low zero zero d t a e f b = refl
one_place (x ∷ ds) low zero (suc q) d t a e f b =
    let more = brace_from ds (suc x.brace) q t a.1 f in
    let same = ap (λ y. y.brace) (some_same x d e) in
    absurd (omega (arith, more, same, b))
one_place (x ∷ ds) low (suc p) zero d t a e f b =
    let more = brace_from ds (suc x.brace) p d a.1 e in
    let same = ap (λ y. y.brace) (some_same x t f) in
    absurd (omega (arith, more, same, b))
one_place (x ∷ ds) low (suc p) (suc q) d t a e f b = ap suc (one_place ds (suc x.brace) p q d t a.1 e f b)

hole_from : (all : List Hole) (n : ℕ) (hs : List Hole) (ds : List TypeDecl) (low : ℕ) (h : Hole) → HoldTypes all n hs ds → Above low (braces_of ds) → IsAmong hs h → low ≤ h.brace
hole_from all n [] ds low h held a i = elim i [ ]
hole_from all n (k ∷ hs) [] low h held a (among_first _ _ _ e) = absurd held
hole_from all n (k ∷ hs) [] low h held a (among_later _ _ _ i) = absurd held
hole_from all n (k ∷ hs) (d ∷ ds) low h held a (among_first _ _ _ e) =
    let own = held.0 in
    subst (λ g. low ≤ g.brace) e (subst (λ b. low ≤ b) own.brace a.0)
hole_from all n (k ∷ hs) (d ∷ ds) low h held a (among_later _ _ _ i) =
    let first = a.0 in
    let more = hole_from all (suc n) hs ds (suc d.brace) h held.1 a.1 i in
    omega (arith, first, more)

-- two holes with one brace are the same
one_hole : (all : List Hole) (n : ℕ) (hs : List Hole) (ds : List TypeDecl) (low : ℕ) (h k : Hole) → HoldTypes all n hs ds → Above low (braces_of ds)
    → IsAmong hs h → IsAmong hs k → h.brace ≡ k.brace → h ≡ k
one_hole all n [] ds low h k held a i j b = elim i [ ]
one_hole all n (g ∷ hs) [] low h k held a (among_first _ _ _ e) j b = absurd held
one_hole all n (g ∷ hs) [] low h k held a (among_later _ _ _ i) j b = absurd held
one_hole all n (g ∷ hs) (d ∷ ds) low h k held a (among_first _ _ _ e) (among_first _ _ _ f) b = sym e ∙ f
one_hole all n (g ∷ hs) (d ∷ ds) low h k held a (among_first _ _ _ e) (among_later _ _ _ j) b =
    let own = held.0 in
    let first = own.brace in
    let same = ap (λ x. x.brace) e in
    let more = hole_from all (suc n) hs ds (suc d.brace) k held.1 a.1 j in
    absurd (omega (arith, first, same, more, b))
one_hole all n (g ∷ hs) (d ∷ ds) low h k held a (among_later _ _ _ i) (among_first _ _ _ f) b =
    let own = held.0 in
    let first = own.brace in
    let same = ap (λ x. x.brace) f in
    let more = hole_from all (suc n) hs ds (suc d.brace) h held.1 a.1 i in
    absurd (omega (arith, first, same, more, b))
one_hole all n (g ∷ hs) (d ∷ ds) low h k held a (among_later _ _ _ i) (among_later _ _ _ j) b =
    one_hole all (suc n) hs ds (suc d.brace) h k held.1 a.1 i j b

-- ---- one unit

-- all the holes of a unit, one for each of its types
record AllHoles (u : CompilationUnit) : Type 0 where
  holes : List Hole
  hold : HoldTypes holes 0 holes u.types
  own : (h : Hole) → IsAmong (holes_of (yield_unit u)) h → IsAmong holes h
  rising : Above 0 (braces_of u.types)

all_holes : (tokens : List Sign) (u : CompilationUnit) → IsUnitOf tokens u → Above 0 (left_braces tokens) → AllHoles u
all_holes tokens u is a =
    let r = listed (yield_unit u) _ _ is.spells in
    let whole : r.types ≡ u.types = sym (r.left ∙ append-nil r.types) in
    record {
      holes = r.holes;
      hold = subst (λ ts. HoldTypes r.holes 0 r.holes ts) whole r.hold;
      own = r.own;
      rising = sub_above 0 (braces_of u.types) (left_braces tokens) (unit_braces tokens u is) a;
    }

in_place_of : (u : CompilationUnit) (r : AllHoles u) (k h : Hole) (number : ℕ) (t : TypeDecl) → IsAmong r.holes k → slice_get u.types number ≡ Some t → t.brace ≡ k.brace
    → IsAmong (holes_of (yield_type_decl number k t)) h → IsAmong r.holes h
in_place_of u r k h number t i e b c =
    let f = type_of r.holes 0 r.holes u.types k r.hold i in
    let holds = f.holds in
    let same : number ≡ f.place = one_place u.types 0 number f.place t f.type_decl r.rising e f.at (b ∙ sym holds.brace) in
    let that : t ≡ f.type_decl = some_same t f.type_decl (sym e ∙ ap (slice_get u.types) same ∙ f.at) in
    let counted : number ≡ 0 + f.place = omega (arith, same) in
    holds.gives h (subst (λ d. IsAmong (holes_of (yield_type_decl (0 + f.place) k d)) h) that (subst (λ n. IsAmong (holes_of (yield_type_decl n k t)) h) counted c))

among_all : (u : CompilationUnit) (r : AllHoles u) (h : Hole) → IsHoleOf u h → IsAmong r.holes h
among_all u r h (in_unit _ c) = r.own h (is_among (holes_of (yield_unit u)) h c)
among_all u r h (in_type k _ number t own e b c) =
    in_place_of u r k h number t (among_all u r k own) e b (is_among (holes_of (yield_type_decl number k t)) h c)

same_type : (u : CompilationUnit) (r : AllHoles u) (t : TypeDecl) (o p : OutlineType) → IsOutlineType u t o → IsOutlineType u t p → o ≡ p
same_type u r t o p a b =
    let same : a.hole ≡ b.hole = one_hole r.holes 0 r.holes u.types 0 a.hole b.hole r.hold r.rising (among_all u r a.hole a.declares) (among_all u r b.hole b.declares) (sym a.brace ∙ b.brace) in
    a.is ∙ ap (λ h. outline_type u.types h t) same ∙ sym b.is

same_types : (u : CompilationUnit) (r : AllHoles u) (ts : List TypeDecl) (os ps : List OutlineType) → AreOutlineTypes u ts os → AreOutlineTypes u ts ps → os ≡ ps
same_types u r [] [] [] a b = refl
same_types u r [] [] (p ∷ ps) a b = absurd b
same_types u r [] (o ∷ os) ps a b = absurd a
same_types u r (t ∷ ts) [] ps a b = absurd a
same_types u r (t ∷ ts) (o ∷ os) [] a b = absurd b
same_types u r (t ∷ ts) (o ∷ os) (p ∷ ps) a b =
    ap (λ x. x ∷ os) (same_type u r t o p a.0 b.0) ∙ ap (λ xs. p ∷ xs) (same_types u r ts os ps a.1 b.1)

abbrev outline_of : List (List ℕ) → List ImportName → List OutlineType → Outline
outline_of name imports types = record { «package» = name; imports = imports; types = types }

same_parts : (o p : Outline) → o.package ≡ p.package → o.imports ≡ p.imports → o.types ≡ p.types → o ≡ p
same_parts o p a b c =
    ap (λ x. outline_of x o.imports o.types) a ∙ ap (λ x. outline_of p.package x o.types) b ∙ ap (λ x. outline_of p.package p.imports x) c

-- a unit has at most one outline
one_of_unit : (u : CompilationUnit) (r : AllHoles u) (o p : Outline) → IsOutline u o → IsOutline u p → o ≡ p
one_of_unit u r o p a b =
    same_parts o p (a.in_package ∙ sym b.in_package) (a.imports ∙ sym b.imports) (same_types u r u.types o.types p.types a.types b.types)

-- ---- one text

-- tokens have at most one unit (JLS 7.3)
abbrev pub UnitsAreOne : Type 0
UnitsAreOne = (tokens : List Sign) (u v : CompilationUnit) → IsUnitOf tokens u → IsUnitOf tokens v → u ≡ v

same_unit : UnitsAreOne → (level : Level) (text : List ℕ) (u v : CompilationUnit) → IsUnitOfText level text u → IsUnitOfText level text v → u ≡ v
same_unit one level text u v a b =
    let same : b.tokens ≡ a.tokens = tokens_are_unique level text b.tokens a.tokens b.scanned a.scanned in
    one (signs a.tokens) u v a.unit (subst (λ ts. IsUnitOf (signs ts) v) same b.unit)

-- A text has at most one outline, where tokens have at most one unit.
pub at_most_one_outline : UnitsAreOne → (level : Level) (text : List ℕ) (o p : Outline) → HasOutline level text o → HasOutline level text p → o ≡ p
at_most_one_outline one level text o p a b =
    let is = a.is_unit in
    let same : b.unit ≡ a.unit = same_unit one level text b.unit a.unit b.is_unit a.is_unit in
    let r = all_holes (signs is.tokens) a.unit is.unit (text_above level text is.tokens is.scanned) in
    one_of_unit a.unit r o p a.is_outline (subst (λ u. IsOutline u p) same b.is_outline)

-- A unit has an outline.
use Rattle.std.proofs.Common.{◌≡◌, ◌+◌, suc, List, [], ◌∷◌, ◌++◌, Some, map, length, slice_get, Contains, refl, sym, ap, ◌∙◌, subst, append_assoc, arith}
use Rattle.std.proofs.lemmas.List.{append-nil}
use Rattle.java_tree.specs.declared.outline.Outline.{Outline}
use Rattle.java_tree.specs.declared.outline.OutlineType.{OutlineType}
use Rattle.java_tree.specs.declared.unit.TypeDecl.{TypeDecl}
use Rattle.java_tree.specs.declared.unit.Unit.{Unit as CompilationUnit}
use Rattle.java_model.specs.Grammar.Signs.{Sign}
use Rattle.java_model.specs.Grammar.Pieces.{Piece, token, hole, Hole}
use Rattle.java_model.specs.Grammar.Runs.{holes_of}
use Rattle.java_model.specs.Grammar.YieldUnit.{yield_type_decl, yield_unit}
use Rattle.java_model.specs.Grammar.Units.{Stage, stage, Spells, spells_nothing, spells_token, spells_type, IsUnitOf}
use Rattle.java_model.specs.Outlines.{IsHoleOf, in_unit, in_type, outline_type, AreOutlineTypes, IsOutline, import_name, package_name}

-- the types that pieces take, with an outline for each
record Taken (u : CompilationUnit) (s t : Stage) : Type 0 where
  types : List TypeDecl
  outlines : List OutlineType
  are : AreOutlineTypes u types outlines
  left : s.types ≡ types ++ t.types
  number : t.number ≡ s.number + length types

both_are : (u : CompilationUnit) (ts vs : List TypeDecl) (os ps : List OutlineType) → AreOutlineTypes u ts os → AreOutlineTypes u vs ps → AreOutlineTypes u (ts ++ vs) (os ++ ps)
both_are u [] vs [] ps h g = g
both_are u [] vs (o ∷ os) ps h g = absurd h
both_are u (t ∷ ts) vs [] ps h g = absurd h
both_are u (t ∷ ts) vs (o ∷ os) ps h g = (h.0, both_are u ts vs os ps h.1 g)

at_seam : (before : List TypeDecl) (d : TypeDecl) (after : List TypeDecl) → slice_get (before ++ d ∷ after) (length before) ≡ Some d
at_seam [] d after = refl
at_seam (c ∷ before) d after = at_seam before d after

length_both : (xs ys : List TypeDecl) → length (xs ++ ys) ≡ length xs + length ys
length_both [] ys = omega arith
length_both (x ∷ xs) ys = let h = length_both xs ys in omega arith

further : (k h : Hole) (hs : List Hole) → Contains hs h → Contains (k ∷ hs) h
further k h hs c = (suc c.0, omega (arith, c.1), c.2)

-- where a stage stands in the types of its unit
record Placed (u : CompilationUnit) (s : Stage) : Type 0 where
  before : List TypeDecl
  all : u.types ≡ before ++ s.types
  count : s.number ≡ length before

taken : (u : CompilationUnit) (ps : List Piece) (s t : Stage) → Spells ps s t → Placed u s → ((h : Hole) → Contains (holes_of ps) h → IsHoleOf u h) → Taken u s t
taken u [] s t (spells_nothing _) p declared = record { types = []; outlines = []; are = tt; left = refl; number = omega arith }
taken u (token x ∷ ps) s t (spells_token _ _ tokens _ _ e g) p declared =
    let r = taken u ps _ t g (record { before = p.before; all = p.all; count = p.count }) declared in
    record { types = r.types; outlines = r.outlines; are = r.are; left = r.left; number = r.number }
taken u (hole h ∷ ps) s t (spells_type _ _ d types _ m _ e shape g rest) p declared =
    let own = declared h (0, omega arith, refl) in
    let outer = p.before ++ d ∷ [] in
    let behind : u.types ≡ p.before ++ d ∷ types = p.all ∙ ap (λ ts. p.before ++ ts) e in
    let all : u.types ≡ outer ++ types = behind ∙ sym (append_assoc p.before (d ∷ []) types) in
    let here : slice_get u.types s.number ≡ Some d =
    ap (λ ts. slice_get ts s.number) behind ∙ ap (slice_get (p.before ++ d ∷ types)) p.count ∙ at_seam p.before d types in
    let longer = length_both p.before (d ∷ []) in
    let counted : suc s.number ≡ length outer = omega (arith, p.count, longer) in
    let inner = taken u (yield_type_decl s.number h d) (stage (suc s.number) types s.tokens) m g (record { before = outer; all = all; count = counted })
    (λ k c. in_type h k s.number d own here shape.brace c) in
    let longest = length_both outer inner.types in
    let later = taken u ps m t rest
    (record {
      before = outer ++ inner.types;
      all = all ∙ ap (λ ts. outer ++ ts) inner.left ∙ sym (append_assoc outer inner.types m.types);
      count = omega (arith, inner.number, counted, longest);
    })
    (λ k c. declared k (further h k _ c)) in
    let lengths = length_both inner.types later.types in
    record {
      types = d ∷ (inner.types ++ later.types);
      outlines = outline_type u.types h d ∷ (inner.outlines ++ later.outlines);
      are = (record { hole = h; declares = own; brace = shape.brace; is = refl }, both_are u inner.types later.types inner.outlines later.outlines inner.are later.are);
      left = e ∙ ap (λ ts. d ∷ ts) (inner.left ∙ ap (λ ts. inner.types ++ ts) later.left ∙ sym (append_assoc inner.types later.types t.types));
      number = omega (arith, inner.number, later.number, lengths);
    }

-- a unit has an outline
pub has_outline : (tokens : List Sign) (u : CompilationUnit) → IsUnitOf tokens u → (o : Outline) × IsOutline u o
has_outline tokens u h =
    let r = taken u (yield_unit u) _ _ h.spells (record { before = []; all = refl; count = refl }) (λ k c. in_unit k c) in (
      record { «package» = package_name u.package; imports = map import_name u.imports; types = r.outlines },
      record { in_package = refl; imports = refl; types = subst (λ ts. AreOutlineTypes u ts r.outlines) (sym (r.left ∙ append-nil r.types)) r.are },
    )

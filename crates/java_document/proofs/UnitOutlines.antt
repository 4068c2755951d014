-- The outlines of a unit's types are those of its holes, in order.
use Rattle.std.proofs.Common.{◌≡◌, ◌+◌, ◌≤◌, ◌==◌, ℕ, Bool, cond, nat_lt, position, zero, suc, List, [], ◌∷◌, ◌++◌, Option, Some, None, map, length, slice_get, Contains, refl, sym, ap, ◌∙◌, subst, append_assoc, arith}
use Rattle.std.proofs.lemmas.List.{append-nil}
use Rattle.java_tree.specs.declared.outline.OutlineType.{OutlineType}
use Rattle.java_tree.specs.declared.outline.TypeKind.{TypeKind}
use Rattle.java_tree.specs.declared.outline.TypeKind.TheVariants as kinds
use Rattle.java_tree.specs.declared.token.Span.{Span}
use Rattle.java_tree.specs.declared.unit.Member.{Member}
use Rattle.java_tree.specs.declared.unit.TypeDecl.{TypeDecl}
use Rattle.java_tree.specs.declared.unit.TypeHead.{TypeHead}
use Rattle.java_tree.specs.declared.unit.TypeHead.TheVariants as heads
use Rattle.java_tree.specs.declared.unit.TypePlace.{TypePlace}
use Rattle.java_tree.specs.declared.unit.TypePlace.TheVariants as places
use Rattle.java_tree.specs.declared.unit.Unit.{Unit as CompilationUnit}
use Rattle.std.specs.List.{flat_map, position_or_len}
use Rattle.java_model.specs.Grammar.Braces.{braces_of}
use Rattle.java_model.specs.Grammar.Forms.{last_or}
use Rattle.java_model.specs.Grammar.Signs.{Sign}
use Rattle.java_model.specs.Grammar.Pieces.{Piece, token, hole, Hole}
use Rattle.java_model.specs.Grammar.Runs.{holes_of}
use Rattle.java_model.specs.Grammar.YieldUnit.{yield_type_decl, yield_unit}
use Rattle.java_model.specs.Grammar.Units.{Stage, stage, Spells, spells_nothing, spells_token, spells_type, IsUnitOf}
use Rattle.java_model.specs.Outlines.{IsHoleOf, in_unit, in_type, outline_type, AreOutlineTypes, spelled_name, spelled_names, spelled_modifiers, optional_name, no_span, fields_in, methods_in, constructors_in, put_number, numbers_of, locals_at, is_local}
use Rattle.java_document.specs.Holes.{kept}
use Rattle.java_document.specs.Outlining.{number_in, numbers_in, local_numbers, outlined, in_order, type_at, types_from}
use Rattle.java_document.proofs.Outlining.{length-both}

-- ---- one type

first-step : (types : List TypeDecl) (t : TypeDecl) (brace : ℕ) → position_or_len (λ b. b == brace) (braces_of types) ≡ position_or_len (λ t. t.brace == brace) types
    → position_or_len (λ b. b == brace) (braces_of (t ∷ types)) ≡ position_or_len (λ t. t.brace == brace) (t ∷ types)
first-step types t brace h = first_of (cc, grind (arith, h))

first-brace : (types : List TypeDecl) (brace : ℕ) → position_or_len (λ b. b == brace) (braces_of types) ≡ position_or_len (λ t. t.brace == brace) types
first-brace [] brace = refl
first-brace (t ∷ types) brace = first-step types t brace (first-brace types brace)

length-braces : (types : List TypeDecl) → length (braces_of types) ≡ length types
length-braces [] = refl
length-braces (t ∷ types) = ap suc (length-braces types)

number-braces : (types : List TypeDecl) (brace : ℕ) → number_in (braces_of types) brace ≡ position (λ t. t.brace == brace) types
number-braces types brace =
    ap (λ n. cond (nat_lt n (length (braces_of types))) (Some n) None) (first-brace types brace)
    ∙ ap (λ k. cond (nat_lt (position_or_len (λ t. t.brace == brace) types) k) (Some (position_or_len (λ t. t.brace == brace) types)) None) (length-braces types)

same_numbers : (types : List TypeDecl) (locals : List ℕ) → numbers_in (braces_of types) locals ≡ numbers_of types locals
same_numbers types [] = refl
same_numbers types (brace ∷ more) =
    ap (λ n. put_number n (numbers_in (braces_of types) more)) (number-braces types brace) ∙ ap (put_number (position (λ t. t.brace == brace) types)) (same_numbers types more)

same_locals : (types : List TypeDecl) (place : TypePlace) (locals : List ℕ) → local_numbers (braces_of types) place locals ≡ locals_at types place locals
same_locals types places.Local locals = same_numbers types locals
same_locals types places.Anonymous locals = same_numbers types locals
same_locals types places.TopLevel locals = refl
same_locals types places.Member locals = refl

-- an outline by its parts
part : TypeKind → List ℕ → Span → ℕ → List (List (List ℕ)) → List (List (List ℕ)) → Option ℕ → List Member → Bool → List ℕ → OutlineType
part kind name span modifiers extends implements parent ms local locals = record {
  kind = kind;
  local = local;
  name = name;
  span = span;
  modifiers = modifiers;
  parent = parent;
  locals = locals;
  extends = extends;
  implements = implements;
  fields = flat_map fields_in ms;
  methods = flat_map methods_in ms;
  constructors = flat_map constructors_in ms;
}

in_place : (O : Bool → List ℕ → OutlineType) (types : List TypeDecl) (own held : TypePlace) (locals : List ℕ) → own ≡ held
    → O (is_local held) (local_numbers (braces_of types) held locals) ≡ O (is_local own) (locals_at types own locals)
in_place O types own held locals e =
    ap (λ p. O (is_local p) (local_numbers (braces_of types) p locals)) (sym e) ∙ ap (O (is_local own)) (same_locals types own locals)

same_parts : (types : List TypeDecl) (h : Hole) (parent : Option ℕ) (place : TypePlace) (head : TypeHead) (brace : ℕ) (ms : List Member) → place ≡ h.place
    → outlined (braces_of types) (kept h) (record { parent = parent; place = place; head = head; brace = brace; members = ms })
    ≡ outline_type types h (record { parent = parent; place = place; head = head; brace = brace; members = ms })
unfolding part
same_parts types h parent place (heads.Class c) brace ms e =
    in_place (part kinds.Class c.name.name c.name.span (spelled_modifiers c.modifiers) (optional_name c.extends) (spelled_names c.implements) parent ms) types place h.place h.around.locals e
same_parts types h parent place (heads.Interface i) brace ms e =
    in_place (part kinds.Interface i.name.name i.name.span (spelled_modifiers i.modifiers) (spelled_names i.extends) [] parent ms) types place h.place h.around.locals e
same_parts types h parent place heads.Anonymous brace ms e =
    in_place (part kinds.Anonymous [] (last_or no_span (map (λ i. i.span) h.created)) 0 (spelled_name h.created ∷ []) [] parent ms) types place h.place h.around.locals e

same_outline : (types : List TypeDecl) (h : Hole) (t : TypeDecl) → t.place ≡ h.place → outlined (braces_of types) (kept h) t ≡ outline_type types h t
same_outline types h t e = same_parts types h t.parent t.place t.head t.brace t.members e

-- ---- all types

record Taken (u : CompilationUnit) (s t : Stage) (outlines : List OutlineType) : Type 0 where
  types : List TypeDecl
  are : AreOutlineTypes u types outlines
  left : s.types ≡ types ++ t.types
  number : t.number ≡ s.number + length outlines
  count : length outlines ≡ length types

both_are : (u : CompilationUnit) (ts vs : List TypeDecl) (os ps : List OutlineType) → AreOutlineTypes u ts os → AreOutlineTypes u vs ps → AreOutlineTypes u (ts ++ vs) (os ++ ps)
both_are u [] vs [] ps h g = g
both_are u [] vs (o ∷ os) ps h g = absurd h
both_are u (t ∷ ts) vs [] ps h g = absurd h
both_are u (t ∷ ts) vs (o ∷ os) ps h g = (h.0, both_are u ts vs os ps h.1 g)

at_seam : (before : List TypeDecl) (d : TypeDecl) (after : List TypeDecl) → slice_get (before ++ d ∷ after) (length before) ≡ Some d
at_seam [] d after = refl
at_seam (c ∷ before) d after = at_seam before d after

length_types : (xs ys : List TypeDecl) → length (xs ++ ys) ≡ length xs + length ys
length_types [] ys = omega arith
length_types (x ∷ xs) ys = let h = length_types xs ys in omega arith

further : (k h : Hole) (hs : List Hole) → Contains hs h → Contains (k ∷ hs) h
further k h hs c = (suc c.0, omega (arith, c.1), c.2)

record Placed (u : CompilationUnit) (s : Stage) : Type 0 where
  before : List TypeDecl
  all : u.types ≡ before ++ s.types
  count : s.number ≡ length before

-- the outlines of a type that begins here, and of those in it
own_outlines : (types : List TypeDecl) (k n : ℕ) (h : Hole) (d : TypeDecl) → slice_get types n ≡ Some d → d.place ≡ h.place
    → types_from (suc k) types n h ≡ outline_type types h d ∷ in_order (types_from k types) (suc n) (holes_of (yield_type_decl n h d))
unfolding types_from
own_outlines types k n h d here place =
    ap (type_at (types_from k types) types n h) here
    ∙ ap (λ o. o ∷ in_order (types_from k types) (suc n) (holes_of (yield_type_decl n h d))) (same_outline types h d place)

-- a type with those in it, and what comes after these
joined : (u : CompilationUnit) (s m t : Stage) (h : Hole) (d : TypeDecl) (types : List TypeDecl) (os ps : List OutlineType) → s.types ≡ d ∷ types → IsHoleOf u h → d.brace ≡ h.brace
    → Taken u (stage (suc s.number) types s.tokens) m os → Taken u m t ps → Taken u s t (outline_type u.types h d ∷ (os ++ ps))
joined u s m t h d types os ps e own brace inner later =
    let lengths = length-both os ps in
    let counts = length_types inner.types later.types in
    record {
      types = d ∷ (inner.types ++ later.types);
      are = (record { hole = h; declares = own; brace = brace; is = refl }, both_are u inner.types later.types os ps inner.are later.are);
      left = e ∙ ap (λ ts. d ∷ ts) (inner.left ∙ ap (λ ts. inner.types ++ ts) later.left ∙ sym (append_assoc inner.types later.types t.types));
      number = omega (arith, inner.number, later.number, lengths);
      count = omega (arith, inner.count, later.count, lengths, counts);
    }

taken : (u : CompilationUnit) (ps : List Piece) (k : ℕ) (s t : Stage) → Spells ps s t → Placed u s → length s.types ≤ k
    → ((h : Hole) → Contains (holes_of ps) h → IsHoleOf u h) → Taken u s t (in_order (types_from k u.types) s.number (holes_of ps))
taken u [] k s t (spells_nothing _) p few declared = record { types = []; are = tt; left = refl; number = omega arith; count = refl }
taken u (token x ∷ ps) k s t (spells_token _ _ tokens _ _ e g) p few declared =
    let r = taken u ps k _ t g (record { before = p.before; all = p.all; count = p.count }) few declared in
    record { types = r.types; are = r.are; left = r.left; number = r.number; count = r.count }
taken u (hole h ∷ ps) zero s t (spells_type _ _ d types _ m _ e shape g rest) p few declared =
    let longer = ap length e in absurd (omega (arith, longer, few))
taken u (hole h ∷ ps) (suc k) s t (spells_type _ _ d types _ m _ e shape g rest) p few declared =
    let own = declared h (0, omega arith, refl) in
    let outer = p.before ++ d ∷ [] in
    let behind : u.types ≡ p.before ++ d ∷ types = p.all ∙ ap (λ ts. p.before ++ ts) e in
    let all : u.types ≡ outer ++ types = behind ∙ sym (append_assoc p.before (d ∷ []) types) in
    let here : slice_get u.types s.number ≡ Some d =
    ap (λ ts. slice_get ts s.number) behind ∙ ap (slice_get (p.before ++ d ∷ types)) p.count ∙ at_seam p.before d types in
    let longer = length_types p.before (d ∷ []) in
    let counted : suc s.number ≡ length outer = omega (arith, p.count, longer) in
    let shorter = ap length e in
    let fewer : length types ≤ k = omega (arith, shorter, few) in
    let inner = taken u (yield_type_decl s.number h d) k (stage (suc s.number) types s.tokens) m g (record { before = outer; all = all; count = counted }) fewer
    (λ j c. in_type h j s.number d own here shape.brace c) in
    let first = own_outlines u.types k s.number h d here shape.place in
    let longest = length_types outer inner.types in
    let remaining = ap length inner.left in
    let counts = length_types inner.types m.types in
    let later = taken u ps (suc k) m t rest
    (record {
      before = outer ++ inner.types;
      all = all ∙ ap (λ ts. outer ++ ts) inner.left ∙ sym (append_assoc outer inner.types m.types);
      count = omega (arith, inner.number, inner.count, counted, longest);
    })
    (omega (arith, remaining, counts, fewer))
    (λ j c. declared j (further h j _ c)) in
    let next : m.number ≡ s.number + length (types_from (suc k) u.types s.number h) =
    let lengths = ap length first in omega (arith, inner.number, lengths) in
    let whole : outline_type u.types h d ∷ (in_order (types_from k u.types) (suc s.number) (holes_of (yield_type_decl s.number h d)) ++ in_order (types_from (suc k) u.types) m.number (holes_of ps))
    ≡ in_order (types_from (suc k) u.types) s.number (holes_of (hole h ∷ ps)) =
    ap (λ os. os ++ in_order (types_from (suc k) u.types) m.number (holes_of ps)) (sym first)
    ∙ ap (λ n. types_from (suc k) u.types s.number h ++ in_order (types_from (suc k) u.types) n (holes_of ps)) next in
    subst (Taken u s t) whole (joined u s m t h d types _ _ e own shape.brace inner later)

-- ---- the unit

pub unit_types : (tokens : List Sign) (u : CompilationUnit) (os : List OutlineType) → IsUnitOf tokens u → os ≡ in_order (types_from (length u.types) u.types) 0 (holes_of (yield_unit u))
    → AreOutlineTypes u u.types os
unit_types tokens u os h e =
    let r = taken u (yield_unit u) (length u.types) _ _ h.spells (record { before = []; all = refl; count = refl }) (omega arith) (λ k c. in_unit k c) in
    subst (λ ts. AreOutlineTypes u ts os) (sym (r.left ∙ append-nil r.types)) (subst (AreOutlineTypes u r.types) (sym e) r.are)

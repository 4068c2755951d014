-- The types that a unit declares.
use Rattle.std.proofs.Common.{◌≡◌, ℕ, Bool, true, false, List, [], ◌∷◌, ◌++◌, Option, Some, None, map, length, refl, sym, ap, ◌∙◌}
use Rattle.java_tree.specs.declared.mark.Mark.TheVariants as marks
use Rattle.java_tree.specs.declared.names.Ident.{Ident}
use Rattle.java_tree.specs.declared.outline.OutlineType.{OutlineType}
use Rattle.java_tree.specs.declared.unit.Import.{Import}
use Rattle.java_tree.specs.declared.unit.TopLevel.{TopLevel}
use Rattle.java_tree.specs.declared.unit.Unit.{Unit as CompilationUnit}
use Rattle.java_model.specs.Grammar.Pieces.{the, Around, each, yield_name}
use Rattle.java_model.specs.Grammar.Runs.{holes_of}
use Rattle.java_model.specs.Grammar.Signs.{signs}
use Rattle.java_model.specs.Grammar.YieldUnit.{yield_package, yield_star, yield_import, yield_top, yield_unit, outermost}
use Rattle.java_model.specs.Outlines.{AreOutlineTypes}
use Rattle.java_document.specs.Holes.{kept, Finds}
use Rattle.java_document.specs.Outlining.{OutlinesAll}
use Rattle.java_document.specs.Readings.{IsUnitOfAText}
use Rattle.java_document.specs.declared.hole.FoundHole.{FoundHole}
use Rattle.java_document.proofs.Seeing.{holes_behind, holes_before, holes_name}
use Rattle.java_document.proofs.UnitOutlines.{unit_types}

holes_package : (n : Option (List Ident)) → holes_of (yield_package n) ≡ []
holes_package None = refl
holes_package (Some n) = holes_before (yield_name n) (the marks.Semicolon ∷ []) refl ∙ holes_name n

holes_star : (b : Bool) → holes_of (yield_star b) ≡ []
holes_star true = refl
holes_star false = refl

holes_import : (i : Import) (a : Around) → holes_of (yield_import i a) ≡ []
holes_import i a =
    holes_before (yield_name i.name ++ yield_star i.star) (the marks.Semicolon ∷ []) refl ∙ holes_behind (yield_name i.name) (yield_star i.star) (holes_name i.name) ∙ holes_star i.star

holes_imports : (is : List Import) (a : Around) → holes_of (each (map yield_import is) a) ≡ []
holes_imports [] a = refl
holes_imports (i ∷ is) a = holes_behind (yield_import i a) (each (map yield_import is) a) (holes_import i a) ∙ holes_imports is a

holes_unit : (u : CompilationUnit) → holes_of (yield_unit u) ≡ holes_of (each (map yield_top u.declarations) outermost)
holes_unit u =
    holes_behind (yield_package u.package ++ each (map yield_import u.imports) outermost) (each (map yield_top u.declarations) outermost)
    (holes_behind (yield_package u.package) (each (map yield_import u.imports) outermost) (holes_package u.package) ∙ holes_imports u.imports outermost)

-- what is found in the declarations of a unit
pub tops_found_in : (u : CompilationUnit) (l : List ℕ) (ts : List TopLevel) (b fs : List FoundHole) → ts ≡ u.declarations → b ≡ [] → l ≡ []
    → Finds l (each (map yield_top ts)) b fs → fs ≡ map kept (holes_of (yield_unit u))
tops_found_in u l ts b fs d e none k =
    k.found outermost (sym none) ∙ ap (λ xs. xs ++ map kept (holes_of (each (map yield_top ts) outermost))) e
    ∙ ap (λ xs. map kept (holes_of (each (map yield_top xs) outermost))) d ∙ ap (map kept) (sym (holes_unit u))

pub outlines_are : (u : CompilationUnit) (fs : List FoundHole) (os : List OutlineType) → IsUnitOfAText u → fs ≡ map kept (holes_of (yield_unit u))
    → OutlinesAll u.types (length u.types) fs [] os → AreOutlineTypes u u.types os
outlines_are u fs os h e outlines = unit_types (signs h.3.tokens) u os h.3.unit (outlines.all (holes_of (yield_unit u)) e)

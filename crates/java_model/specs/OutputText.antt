-- The lines of an output.
use Rattle.std.specs.Prelude.{ℕ, ◌-◌, List, [], ◌∷◌, ◌++◌, length, codes}
use Rattle.std.specs.Fmt.{decimal}
use Rattle.std.specs.List.{flat_map}
use Rattle.java_tree.specs.declared.occurrence.Match.{Match}
use Rattle.java_tree.specs.declared.occurrence.OccKind.{OccKind}
use Rattle.java_tree.specs.declared.occurrence.OccKind.TheVariants as kinds
use Rattle.java_tree.specs.declared.occurrence.Accuracy.{Accuracy}
use Rattle.java_tree.specs.declared.occurrence.Accuracy.TheVariants.{Accurate, Inaccurate}
use Rattle.java_tree.specs.declared.occurrence.Access.{Access}
use Rattle.java_tree.specs.declared.occurrence.Access.TheVariants as accesses
use Rattle.java_model.specs.Documents.{Document}
use Rattle.java_model.specs.Output.{Entry, Report}

-- how a kind is printed; a field by how it is used
abbrev pub field_word : Access → List ℕ
field_word accesses.Write = codes "field-write"
field_word accesses.Update = codes "field-update"
field_word _ = codes "field-read"

abbrev pub kind_word : OccKind → Access → List ℕ
kind_word kinds.PackageDecl _ = codes "package-decl"
kind_word kinds.PackageRef _ = codes "package-ref"
kind_word kinds.TypeDecl _ = codes "type-decl"
kind_word kinds.TypeRef _ = codes "type-ref"
kind_word kinds.Super _ = codes "super-ref"
kind_word kinds.MethodDecl _ = codes "method-decl"
kind_word kinds.MethodRef _ = codes "method-ref"
kind_word kinds.CtorDecl _ = codes "ctor-decl"
kind_word kinds.CtorRef _ = codes "ctor-ref"
kind_word kinds.FieldDecl _ = codes "field-decl"
kind_word kinds.FieldRef usage = field_word usage
kind_word kinds.NameRef _ = codes "name-ref"

abbrev pub accuracy_word : Accuracy → List ℕ
accuracy_word Accurate = codes "accurate"
accuracy_word Inaccurate = codes "inaccurate"

-- ` CONTAINER PATH START LENGTH KIND ACCURACY`
abbrev pub match_line : Match → List ℕ
match_line match =
    codes " " ++ match.container ++ codes " " ++ match.path ++ codes " " ++ decimal match.span.start ++ codes " " ++ decimal (match.span.end - match.span.start)
    ++ codes " " ++ kind_word match.kind match.access ++ codes " " ++ accuracy_word match.accuracy ++ (10 ∷ [])

-- ` skip CONTAINER PATH`
abbrev pub skip_line : Document → List ℕ
skip_line doc = codes " skip " ++ doc.container ++ codes " " ++ doc.path ++ (10 ∷ [])

-- `LINE search VERSION matches M resolved R newer W skipped K`, the K skipped documents and the M matches
abbrev pub report_text : Report → List ℕ
report_text report =
    decimal report.line ++ codes " search " ++ decimal report.version ++ codes " matches " ++ decimal (length report.matches) ++ codes " resolved "
    ++ decimal report.resolved ++ codes " newer " ++ decimal report.newer ++ codes " skipped " ++ decimal (length report.skipped) ++ (10 ∷ [])
    ++ flat_map skip_line report.skipped ++ flat_map match_line report.matches

-- `PLACE LINE`
abbrev pub entry_line : Entry → List ℕ
entry_line entry = decimal entry.place ++ codes " " ++ decimal entry.line ++ (10 ∷ [])

-- Which occurrences fit a pattern.
use Rattle.std.specs.Prelude.{ℕ, Bool, true, false, ◌&&◌, ◌||◌, ◌==◌, List, length}
use Rattle.std.specs.List.{list_any}
use Rattle.std.specs.Option.{option_map_or}
use lib.Pointwise.{pointwise}
use Rattle.java_tree.specs.declared.occurrence.Access.{Access}
use Rattle.java_tree.specs.declared.occurrence.Access.TheVariants as accesses
use Rattle.java_tree.specs.declared.occurrence.Binding.{Binding}
use Rattle.java_tree.specs.declared.occurrence.Binding.TheVariants as bindings
use Rattle.java_tree.specs.declared.occurrence.FieldId.{FieldId}
use Rattle.java_tree.specs.declared.occurrence.MethodId.{MethodId}
use Rattle.java_tree.specs.declared.occurrence.OccKind.{OccKind}
use Rattle.java_tree.specs.declared.occurrence.OccKind.TheVariants as occ
use Rattle.java_tree.specs.declared.occurrence.Occurrence.{Occurrence}
use Rattle.java_tree.specs.declared.occurrence.TypeId.{TypeId}
use Rattle.java_tree.specs.declared.search.Limit.{Limit}
use Rattle.java_tree.specs.declared.search.Limit.TheVariants as limits
use Rattle.java_tree.specs.declared.search.What.{What}
use Rattle.java_tree.specs.declared.search.What.TheVariants as whats
use Rattle.java_tree.specs.declared.types.JType.{JType}
use Rattle.java_tree.specs.declared.types.JType.TheVariants as types
use Rattle.java_model.specs.Names.Environments.{Env}
use Rattle.java_model.specs.Names.Fields.{field_at}
use Rattle.java_model.specs.Names.Methods.{method_name, params, overridden}
use Rattle.java_model.specs.SearchPattern.NameMatch.{name_matches}
use Rattle.java_model.specs.SearchPattern.Parts.{Pattern}
use Rattle.java_model.specs.Matches.TypePatterns.{fits_class, fits_type, fits_param}

-- the kinds of declarations, and of references, that a search looks for
abbrev pub is_declaration : What → OccKind → Bool
is_declaration whats.Class occ.TypeDecl = true
is_declaration whats.Method occ.MethodDecl = true
is_declaration whats.Constructor occ.CtorDecl = true
is_declaration whats.Field occ.FieldDecl = true
is_declaration whats.Package occ.PackageDecl = true
is_declaration _ _ = false

abbrev pub is_reference : What → OccKind → Bool
is_reference whats.Class occ.TypeRef = true
is_reference whats.Class occ.NameRef = true
is_reference whats.Method occ.MethodRef = true
is_reference whats.Constructor occ.CtorRef = true
is_reference whats.Field occ.FieldRef = true
is_reference whats.Field occ.NameRef = true
is_reference whats.Package occ.PackageRef = true
is_reference _ _ = false

abbrev pub reads : Access → Bool
reads accesses.Read = true
reads accesses.Update = true
reads _ = false

abbrev pub writes : Access → Bool
writes accesses.Write = true
writes accesses.Update = true
writes _ = false

abbrev pub is_super : What → OccKind → Bool
is_super whats.Class occ.Super = true
is_super _ _ = false

abbrev pub is_field_ref : What → OccKind → Bool
is_field_ref whats.Field occ.FieldRef = true
is_field_ref _ _ = false

abbrev pub is_field : What → Bool
is_field whats.Field = true
is_field _ = false

-- the kinds that a search picks (JDT `IJavaSearchConstants`)
abbrev pub picks : What → Limit → OccKind → Access → Bool
picks what limits.Declarations kind how = is_declaration what kind
picks what limits.References kind how = is_reference what kind
picks what limits.Implementors kind how = is_super what kind
picks what limits.All kind how = is_declaration what kind || is_reference what kind
picks what limits.Reads kind how = is_field what && is_reference what kind && reads how
picks what limits.Writes kind how = is_field_ref what kind && writes how

-- as many parameters as are given, where they are
abbrev pub fits_params : Env → Pattern → List JType → Bool
fits_params env p ts = option_map_or (λ texts. pointwise (fits_param env p.rule p.case) texts ts) p.params true

abbrev pub fits_count : Pattern → ℕ → Bool
fits_count p count = option_map_or (λ texts. length texts == count) p.params true

-- the declaring type of a method or a field, where it is given
abbrev pub fits_declaring : Env → Pattern → TypeId → Bool
fits_declaring env p t = option_map_or (λ text. fits_type env p.rule p.case text (types.Class t)) p.qualification true

abbrev pub fits_method : Env → Pattern → MethodId → Bool
fits_method env p m =
    name_matches p.rule p.case p.name (method_name env m) && fits_declaring env p m.of && fits_params env p (params env m)

abbrev pub fits_constructor : Env → Pattern → MethodId → Bool
fits_constructor env p m = fits_class env p.rule p.case p.qualification p.name m.of && fits_params env p (params env m)

abbrev pub fits_field : Env → Pattern → FieldId → Bool
fits_field env p f =
    option_map_or (λ o. name_matches p.rule p.case p.name o.name) (field_at env f) false && fits_declaring env p f.of

-- A reference to a method is one to each method that it overrides or implements too.
abbrev pub fits_method_at : Env → Pattern → OccKind → MethodId → Bool
fits_method_at env p occ.MethodRef m = fits_method env p m || list_any (fits_method env p) (overridden env m)
fits_method_at env p _ m = fits_method env p m

abbrev pub fits_bound_method : Env → Pattern → What → OccKind → MethodId → Bool
fits_bound_method env p whats.Method kind m = fits_method_at env p kind m
fits_bound_method env p whats.Constructor kind m = fits_constructor env p m
fits_bound_method env p _ kind m = false

-- What isn't bound fits by its name, and by its count of arguments.
abbrev pub fits_unbound : Pattern → Occurrence → Bool
fits_unbound p o = name_matches p.rule p.case p.name o.name && fits_count p o.count

-- what is bound fits where its declaration does
abbrev pub fits_binding : Env → Pattern → Occurrence → Binding → Bool
fits_binding env p o (bindings.Package name) = name_matches p.rule p.case p.name name
fits_binding env p o (bindings.Class t) = fits_class env p.rule p.case p.qualification p.name t
fits_binding env p o (bindings.Field f) = fits_field env p f
fits_binding env p o (bindings.Method m) = fits_bound_method env p p.what o.kind m
fits_binding env p o bindings.Nothing = fits_unbound p o

abbrev pub fits : Env → Pattern → Occurrence → Bool
fits env p o = picks p.what p.limit o.kind o.access && fits_binding env p o o.binding

-- The last identifier of a name.
use Rattle.std.proofs.Common.{◌≡◌, List, [], ◌∷◌, Option, Some, None, refl, ap, ◌∙◌}
use Rattle.java_tree.specs.declared.bound.Bound.{Bound}
use Rattle.java_tree.specs.declared.expr.Creation.{Creation}
use Rattle.java_tree.specs.declared.expr.Expr.{Expr}
use Rattle.java_tree.specs.declared.names.Ident.{Ident}
use Rattle.java_tree.specs.declared.occurrence.MethodId.{MethodId}
use Rattle.java_tree.specs.declared.occurrence.OccKind.TheVariants as occurs
use Rattle.java_tree.specs.declared.types.JType.{JType}
use Rattle.java_model.specs.Grammar.Forms.{last_or}
use Rattle.java_model.specs.Scopes.Contexts.{Context}
use Rattle.java_model.specs.Bindings.Chains.{Types}
use Rattle.java_model.specs.Occurrences.References.{mention}
use Rattle.java_model.specs.Occurrences.Expressions.{at_created, at_last, method_reference, type_binding}
use Rattle.java_model.specs.Occurrences.Declarations.{super_at_last}
use Rattle.java_bind.specs.Lasts.{last_of}

its_last : (x i : Ident) (xs : List Ident) → Some i ≡ Some (last_or x xs) → last_or x xs ≡ i
its_last x i xs e = cc

method-last : (i : Ident) (more : List Ident) (arguments : List Expr) (m : Option MethodId) → at_last (i ∷ more) arguments m ≡ method_reference (last_or i more) arguments m ∷ []
method-last i [] arguments m = refl
method-last i (j ∷ more) arguments m = method-last j more arguments m

pub at_last_there : (name : List Ident) (i : Ident) (arguments : List Expr) (m : Option MethodId) → Some i ≡ last_of name → at_last name arguments m ≡ method_reference i arguments m ∷ []
at_last_there [] i arguments m e = absurd cc
at_last_there (x ∷ xs) i arguments m e = method-last x xs arguments m ∙ ap (λ j. method_reference j arguments m ∷ []) (its_last x i xs e)

pub at_no_last : (name : List Ident) (arguments : List Expr) (m : Option MethodId) → None ≡ last_of name → at_last name arguments m ≡ []
at_no_last [] arguments m e = refl
at_no_last (x ∷ xs) arguments m e = absurd cc

super-last : (i : Ident) (more : List Ident) (t : JType) → super_at_last (i ∷ more) t ≡ mention occurs.Super (last_or i more) (type_binding t) ∷ []
super-last i [] t = refl
super-last i (j ∷ more) t = super-last j more t

pub super_there : (name : List Ident) (i : Ident) (t : JType) → Some i ≡ last_of name → super_at_last name t ≡ mention occurs.Super i (type_binding t) ∷ []
super_there [] i t e = absurd cc
super_there (x ∷ xs) i t e = super-last x xs t ∙ ap (λ j. mention occurs.Super j (type_binding t) ∷ []) (its_last x i xs e)

pub no_super : (name : List Ident) (t : JType) → None ≡ last_of name → super_at_last name t ≡ []
no_super [] t e = refl
no_super (x ∷ xs) t e = absurd cc

module _ (C : Context) (s : List Bound) (c : Creation) (t : JType) (arguments : Types) where
  created-last : (i : Ident) (more : List Ident) → at_created C s c t arguments (i ∷ more) ≡ at_created C s c t arguments (last_or i more ∷ [])
  created-last i [] = refl
  created-last i (j ∷ more) = created-last j more

  pub created_at_last : (name : List Ident) (i : Ident) → Some i ≡ last_of name → at_created C s c t arguments name ≡ at_created C s c t arguments (i ∷ [])
  created_at_last [] i e = absurd cc
  created_at_last (x ∷ xs) i e = created-last x xs ∙ ap (λ j. at_created C s c t arguments (j ∷ [])) (its_last x i xs e)

  pub created_nowhere : (name : List Ident) → None ≡ last_of name → at_created C s c t arguments name ≡ []
  created_nowhere [] e = refl
  created_nowhere (x ∷ xs) e = absurd cc

-- The access of members, as the definitions of access see it.
use Rattle.java_model.specs.Names.Access.{Visibility, PrivateAccess, DefaultAccess, ProtectedAccess, PublicAccess}
use Rattle.java_supers.specs.declared.access.Access.{Access}
use Rattle.java_supers.specs.declared.access.Access.TheVariants as accesses

abbrev pub visibility_of : Access → Visibility
visibility_of accesses.Private = PrivateAccess
visibility_of accesses.Default = DefaultAccess
visibility_of accesses.Protected = ProtectedAccess
visibility_of accesses.Public = PublicAccess

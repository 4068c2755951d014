-- The access of members, as the definitions of access see it.
use Rattle.java_model.specs.Names.Access.{Visibility as AVisibility, PrivateAccess, DefaultAccess, ProtectedAccess, PublicAccess}
use Rattle.java_env.specs.declared.visibility.Visibility.{Visibility}
use Rattle.java_env.specs.declared.visibility.Visibility.TheVariants as kinds

abbrev pub visibility_of : Visibility → AVisibility
visibility_of kinds.Private = PrivateAccess
visibility_of kinds.Default = DefaultAccess
visibility_of kinds.Protected = ProtectedAccess
visibility_of kinds.Public = PublicAccess

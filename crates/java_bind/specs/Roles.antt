-- Where names stand, as the code holds it.
use Rattle.java_model.specs.Occurrences.References.{Role as ModelRole, as_type, as_import, as_qualifier, as_variable}
use Rattle.java_bind.specs.declared.role.Role.{Role}
use Rattle.java_bind.specs.declared.role.Role.TheVariants as roles

abbrev pub role_of : Role → ModelRole
role_of roles.Type = as_type
role_of roles.Import = as_import
role_of roles.Qualifier = as_qualifier
role_of (roles.Variable how) = as_variable how

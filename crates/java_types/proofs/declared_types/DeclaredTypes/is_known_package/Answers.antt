use Rattle.std.proofs.Common.{sym, ◌∙◌, subst}
use Rattle.java_types.specs.Packages.{AreKnown}
use Rattle.java_types.proofs.KnownPackages.{known_among}
use Rattle.java_types.proofs.declared_types.DeclaredTypes.is_known_package.Goals as goal

pub returns-else-has_java_lang : goal.returns-else-has_java_lang
returns-else-has_java_lang c =
    known_among c.args.self.now c.self.inside.packages c.args.name.now c.has.result (subst (λ env. AreKnown env c.self.inside.packages) c.self.view_is c.self.invariant.known)
    (sym c.is_empty.ensures ∙ c.if-is_empty.false) (sym c.if-has_java_lang.ensures) c.has.ensures

-- Int literals, as the code holds them.
use Rattle.java_model.specs.Bindings.Conditionals.{SignedLiteral, int_value}
use Rattle.java_bind_expr.specs.declared.literals.IntLiteral.{IntLiteral}

abbrev pub as_number : IntLiteral → SignedLiteral
as_number l = record { is_negative = l.is_negative; value = int_value l.text.now }

-- What lets the prover compute the outcome of a text that is written out.
use Rattle.std.proofs.Common.{ℕ, List}
use Rattle.std.specs.Str.{chars}
use lib.Utf8.{encode}
use Rattle.java_tree.specs.declared.token.Token.{Token}
use Rattle.java_tree.specs.declared.token.TokenKind.{TokenKind}
use Rattle.unicode_ident.proofs.Computing.{unicode_ident}
use Rattle.java_model.specs.Lexical.Words.{keywords, is_reserved}
use Rattle.java_model.specs.Lexical.Symbols.{symbols, separators, operators}
use Rattle.java_model.proofs.Lexical.Escaping.{marked, read_units}
use Rattle.java_model.proofs.Lexical.Reading.{inside_length, tail_length, slashed, family_of}
use Rattle.java_model.proofs.Lexical.Scanning.{read_elements}

-- `unfolding computing` lets `refl` compute what a text reads as
unfoldable pub computing : Unit {0}
unfolding unicode_ident keywords is_reserved symbols separators operators marked read_units inside_length tail_length slashed family_of read_elements chars encode
computing = tt

-- a token of these bytes, from one byte of the text up to another
abbrev pub part : TokenKind → List ℕ → ℕ → ℕ → Token
part kind name start end = record { kind = kind; name = name; span = record { start = start; end = end } }

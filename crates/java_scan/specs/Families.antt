-- The families of characters as the scanner holds them.
use Rattle.java_model.proofs.Lexical.Reading.{Family}
use Rattle.java_model.proofs.Lexical.Reading.Family.{a_white, a_word, a_number, a_point, a_string, a_character, a_slash, a_symbol}
use Rattle.java_scan.specs.declared.element.Begun.{Begun}
use Rattle.java_scan.specs.declared.element.Begun.TheVariants.{White, Word, Number, Point, String, Character, Slash, Symbol}

abbrev pub family_held : Begun → Family
family_held White = a_white
family_held Word = a_word
family_held Number = a_number
family_held Point = a_point
family_held String = a_string
family_held Character = a_character
family_held Slash = a_slash
family_held Symbol = a_symbol

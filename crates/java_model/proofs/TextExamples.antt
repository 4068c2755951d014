-- Examples that the prover computes: the outline of a class, and a text without a tree.
use Rattle.std.proofs.Common.{ℕ, false, List, [], ◌∷◌, None, refl, lit<}
use Rattle.std.specs.Prelude.{codes}
use Rattle.java_tree.specs.declared.mark.Mark.TheVariants as marks
use Rattle.java_tree.specs.declared.names.Ident.{Ident}
use Rattle.java_tree.specs.declared.outline.Level.TheVariants.{Java14}
use Rattle.java_tree.specs.declared.outline.Outline.{Outline}
use Rattle.java_tree.specs.declared.outline.TypeKind.TheVariants as type_kinds
use Rattle.java_tree.specs.declared.token.Token.{Token}
use Rattle.java_tree.specs.declared.token.TokenKind.TheVariants as kinds
use Rattle.java_tree.specs.declared.unit.TopLevel.TheVariants as tops
use Rattle.java_tree.specs.declared.unit.TypeDecl.{TypeDecl}
use Rattle.java_tree.specs.declared.unit.TypeHead.TheVariants as heads
use Rattle.java_tree.specs.declared.unit.TypePlace.TheVariants as places
use Rattle.java_tree.specs.declared.unit.Unit.{Unit as CompilationUnit}
use Rattle.java_model.specs.Grammar.Marks as mark_words
use Rattle.java_model.specs.Grammar.Pieces.{Hole}
use Rattle.java_model.specs.Grammar.Signs.{left_brace, mark, word, keyword_sign, symbol_sign}
use Rattle.java_model.specs.Grammar.Units.{IsTypeDecl, IsUnit, spells_nothing, spells_type}
use Rattle.java_model.specs.Grammar.YieldUnit.{outermost}
use Rattle.java_model.specs.Lexical.Faults.{HasFault}
use Rattle.java_model.specs.Lexical.Faults.LexicalFault.{unclosed}
use Rattle.java_model.specs.Lexical.Tokens.{HasTokens}
use Rattle.java_model.specs.Outlines.{IsHoleOf, in_unit}
use Rattle.java_model.specs.Texts.{HasOutline, IsUnitOfText, IsUnreadable}
use Rattle.java_model.proofs.Grammar.Spells.{spells_signs}
use Rattle.java_model.proofs.Lexical.Computing.{computing, part}
use Rattle.java_model.proofs.Lexical.Laws.{faults_exclude_tokens}
use Rattle.java_model.proofs.Lexical.TextReading.{tokens_read, fault_read}

-- ---- `class A {}`

abbrev one_class : List ℕ
one_class = codes "class A {}"

abbrev tokens : List Token
tokens = part kinds.Keyword (codes "class") 0 5 ∷ part kinds.Identifier (codes "A") 6 7 ∷ part kinds.Symbol (codes "{") 8 9 ∷ part kinds.Symbol (codes "}") 9 10 ∷ []

its-tokens : HasTokens Java14 one_class tokens
unfolding computing
its-tokens = tokens_read refl

abbrev a : Ident
a = record { name = codes "A"; span = record { start = 6; end = 7 } }

abbrev declaration : TypeDecl
declaration = record {
  parent = None;
  place = places.TopLevel;
  brace = 8;
  head = heads.Class (record { modifiers = []; name = a; extends = None; implements = [] });
  members = [];
}

abbrev unit : CompilationUnit
unit = record { «package» = None; imports = []; declarations = tops.Type 8 ∷ []; types = declaration ∷ [] }

abbrev body : Hole
body = record { brace = 8; place = places.TopLevel; created = []; around = outermost }

declaration-shape : IsTypeDecl body declaration
declaration-shape = record { brace = refl; place = refl; parent = refl; head = (tt, tt); left = 255; counted = refl; members = tt }

unit-of-tokens : IsUnit tokens unit
unfolding keyword_sign symbol_sign mark_words.keywords mark_words.symbols
unit-of-tokens = record {
  in_package = tt;
  imports = tt;
  spells = spells_type body [] declaration [] _ _ _ refl declaration-shape
      (spells_signs (mark marks.Class ∷ word a ∷ left_brace 8 ∷ mark marks.RightBrace ∷ []) [] 1 [] [] _ (spells_nothing _)) (spells_nothing _);
}

its-unit : IsUnitOfText Java14 one_class unit
its-unit = record { tokens = tokens; scanned = its-tokens; unit = unit-of-tokens }

abbrev outline : Outline
outline = record {
  «package» = [];
  imports = [];
  types = record {
    kind = type_kinds.Class;
    local = false;
    name = codes "A";
    span = record { start = 6; end = 7 };
    modifiers = 0;
    parent = None;
    locals = [];
    extends = [];
    implements = [];
    fields = [];
    methods = [];
    constructors = [];
  } ∷ [];
}

body-stands : IsHoleOf unit body
body-stands = in_unit _ (0, lit< tt, refl)

its-outline : HasOutline Java14 one_class outline
its-outline = record {
  unit = unit;
  is_unit = its-unit;
  is_outline = record { in_package = refl; imports = refl; types = (record { hole = body; declares = body-stands; brace = refl; is = refl }, tt) };
}

-- ---- a quote alone has no tree

abbrev quote : List ℕ
quote = codes "'"

its-fault : HasFault Java14 quote (unclosed 0)
unfolding computing
its-fault = fault_read refl

without-a-tree : IsUnreadable Java14 quote
without-a-tree u is_unit = faults_exclude_tokens Java14 quote is_unit.tokens (unclosed 0) is_unit.scanned its-fault

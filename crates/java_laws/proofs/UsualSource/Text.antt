-- The text of the source, and its tokens.
use Rattle.std.proofs.Common.{◌≡◌, ℕ, zero, suc, ◌+◌, length, List, [], ◌∷◌, ◌++◌, codes, map, ap, refl, ◌∙◌}
use Rattle.java_tree.specs.declared.outline.Level.TheVariants.{Java14}
use Rattle.java_tree.specs.declared.token.Token.{Token}
use Rattle.java_tree.specs.declared.token.TokenKind.{TokenKind}
use Rattle.java_tree.specs.declared.token.TokenKind.TheVariants.{Identifier, Keyword, StringLit, Symbol}
use Rattle.java_model.specs.Lexical.Escapes.{Input, raw}
use Rattle.java_model.specs.Lexical.Tokens.{HasTokens}
use Rattle.java_model.proofs.Lexical.Computing.{computing}
use Rattle.java_model.proofs.Lexical.Escaping.Read.{whole}
use Rattle.java_model.proofs.Lexical.Inputs.{read_text}
use Rattle.java_model.proofs.Lexical.Scanning.{read_elements}
use Rattle.java_model.proofs.Lexical.Scanning.Scanned.{scanned}
use Rattle.java_model.proofs.Lexical.TextReading.{outcome_read, outcome_of, tokens_read}

abbrev line : List ℕ → List ℕ
line bytes = bytes ++ 10 ∷ []

-- a token that begins at this byte
abbrev from : TokenKind → ℕ → List ℕ → Token
from kind start name = record { kind = kind; name = name; span = record { start = start; end = start + length name } }

abbrev keyword : ℕ → List ℕ → Token
keyword = from Keyword

abbrev identifier : ℕ → List ℕ → Token
identifier = from Identifier

abbrev string : ℕ → List ℕ → Token
string = from StringLit

abbrev symbol : ℕ → List ℕ → Token
symbol = from Symbol

abbrev line-1 : List ℕ
line-1 = line (codes "package p;")

abbrev line-2 : List ℕ
line-2 = line (codes "import java.util.*;")

abbrev line-3 : List ℕ
line-3 = line (codes "public class Main {")

abbrev line-4 : List ℕ
line-4 = line (codes "  private List items = new ArrayList();")

abbrev line-5 : List ℕ
line-5 = line (codes "  public static void main(String[] args) {")

abbrev line-6 : List ℕ
line-6 = line (codes "    Main m = new Main();")

abbrev line-7 : List ℕ
line-7 = line (codes "    m.items.add(\"x\");")

abbrev line-8 : List ℕ
line-8 = line (codes "    System.out.println(m.items.size());")

abbrev line-9 : List ℕ
line-9 = line (codes "  }")

abbrev line-10 : List ℕ
line-10 = line (codes "}")

abbrev tokens-1 : List Token
tokens-1 = keyword 0 (codes "package") ∷ identifier 8 (codes "p") ∷ symbol 9 (codes ";") ∷ []

abbrev tokens-2 : List Token
tokens-2 =
    keyword 11 (codes "import") ∷ identifier 18 (codes "java") ∷ symbol 22 (codes ".") ∷ identifier 23 (codes "util")
    ∷ symbol 27 (codes ".") ∷ symbol 28 (codes "*") ∷ symbol 29 (codes ";") ∷ []

abbrev tokens-3 : List Token
tokens-3 = keyword 31 (codes "public") ∷ keyword 38 (codes "class") ∷ identifier 44 (codes "Main") ∷ symbol 49 (codes "{") ∷ []

abbrev tokens-4 : List Token
tokens-4 =
    keyword 53 (codes "private") ∷ identifier 61 (codes "List") ∷ identifier 66 (codes "items") ∷ symbol 72 (codes "=")
    ∷ keyword 74 (codes "new") ∷ identifier 78 (codes "ArrayList") ∷ symbol 87 (codes "(") ∷ symbol 88 (codes ")")
    ∷ symbol 89 (codes ";") ∷ []

abbrev tokens-5 : List Token
tokens-5 =
    keyword 93 (codes "public") ∷ keyword 100 (codes "static") ∷ keyword 107 (codes "void") ∷ identifier 112 (codes "main")
    ∷ symbol 116 (codes "(") ∷ identifier 117 (codes "String") ∷ symbol 123 (codes "[") ∷ symbol 124 (codes "]")
    ∷ identifier 126 (codes "args") ∷ symbol 130 (codes ")") ∷ symbol 132 (codes "{") ∷ []

abbrev tokens-6 : List Token
tokens-6 =
    identifier 138 (codes "Main") ∷ identifier 143 (codes "m") ∷ symbol 145 (codes "=") ∷ keyword 147 (codes "new")
    ∷ identifier 151 (codes "Main") ∷ symbol 155 (codes "(") ∷ symbol 156 (codes ")") ∷ symbol 157 (codes ";") ∷ []

abbrev tokens-7 : List Token
tokens-7 =
    identifier 163 (codes "m") ∷ symbol 164 (codes ".") ∷ identifier 165 (codes "items") ∷ symbol 170 (codes ".")
    ∷ identifier 171 (codes "add") ∷ symbol 174 (codes "(") ∷ string 175 (codes "\"x\"") ∷ symbol 178 (codes ")")
    ∷ symbol 179 (codes ";") ∷ []

abbrev tokens-8 : List Token
tokens-8 =
    identifier 185 (codes "System") ∷ symbol 191 (codes ".") ∷ identifier 192 (codes "out") ∷ symbol 195 (codes ".")
    ∷ identifier 196 (codes "println") ∷ symbol 203 (codes "(") ∷ identifier 204 (codes "m") ∷ symbol 205 (codes ".")
    ∷ identifier 206 (codes "items") ∷ symbol 211 (codes ".") ∷ identifier 212 (codes "size") ∷ symbol 216 (codes "(")
    ∷ symbol 217 (codes ")") ∷ symbol 218 (codes ")") ∷ symbol 219 (codes ";") ∷ []

abbrev tokens-9 : List Token
tokens-9 = symbol 223 (codes "}") ∷ []

abbrev tokens-10 : List Token
tokens-10 = symbol 225 (codes "}") ∷ []

abbrev pub text : List ℕ
text = line-1 ++ line-2 ++ line-3 ++ line-4 ++ line-5 ++ line-6 ++ line-7 ++ line-8 ++ line-9 ++ line-10

its-length : length text ≡ 227
its-length = refl

-- those before the class, and those of the class
abbrev pub tokens_before : List Token
tokens_before = tokens-1 ++ tokens-2

abbrev pub tokens_of_class : List Token
tokens_of_class = tokens-3 ++ tokens-4 ++ tokens-5 ++ tokens-6 ++ tokens-7 ++ tokens-8 ++ tokens-9 ++ tokens-10

abbrev pub tokens : List Token
tokens = tokens_before ++ tokens_of_class

abbrev more : ℕ → ℕ → ℕ
more zero n = n
more (suc k) n = suc (more k n)

-- so many elements from one byte to another have these tokens, whatever follows
abbrev Reads : ℕ → ℕ → List ℕ → List Token → ℕ → Type 0
Reads count start bytes found end = (n : ℕ) (rest : List Input) (ts : List Token) (stop : ℕ) (last : List Input)
    → read_elements n Java14 end rest ≡ scanned ts stop last
    → read_elements (more count n) Java14 start (map raw bytes ++ rest) ≡ scanned (found ++ ts) stop last

reads-1 : Reads 5 0 line-1 tokens-1 11
unfolding computing
reads-1 n rest ts stop last e = rw e refl

reads-2 : Reads 9 11 line-2 tokens-2 31
unfolding computing
reads-2 n rest ts stop last e = rw e refl

reads-3 : Reads 8 31 line-3 tokens-3 51
unfolding computing
reads-3 n rest ts stop last e = rw e refl

reads-4 : Reads 17 51 line-4 tokens-4 91
unfolding computing
reads-4 n rest ts stop last e = rw e refl

reads-5 : Reads 19 91 line-5 tokens-5 134
unfolding computing
reads-5 n rest ts stop last e = rw e refl

reads-6 : Reads 17 134 line-6 tokens-6 159
unfolding computing
reads-6 n rest ts stop last e = rw e refl

reads-7 : Reads 14 159 line-7 tokens-7 181
unfolding computing
reads-7 n rest ts stop last e = rw e refl

reads-8 : Reads 20 181 line-8 tokens-8 221
unfolding computing
reads-8 n rest ts stop last e = rw e refl

reads-9 : Reads 4 221 line-9 tokens-9 225
unfolding computing
reads-9 n rest ts stop last e = rw e refl

reads-10 : Reads 2 225 line-10 tokens-10 227
unfolding computing
reads-10 n rest ts stop last e = rw e refl

reads-end : read_elements 113 Java14 227 [] ≡ scanned [] 227 []
unfolding computing
reads-end = refl

its-scan : read_elements 228 Java14 0 (map raw text) ≡ scanned tokens 227 []
its-scan =
    reads-1 _ _ _ _ _ (reads-2 _ _ _ _ _ (reads-3 _ _ _ _ _ (reads-4 _ _ _ _ _ (reads-5 _ _ _ _ _
    (reads-6 _ _ _ _ _ (reads-7 _ _ _ _ _ (reads-8 _ _ _ _ _ (reads-9 _ _ _ _ _ (reads-10 _ _ _ _ _ reads-end)))))))))

-- there is no escape in it
its-units : read_text text ≡ whole (map raw text)
unfolding computing
its-units = refl

pub its-tokens : HasTokens Java14 text tokens
its-tokens = tokens_read (ap (outcome_read Java14) its-units ∙ ap outcome_of its-scan)

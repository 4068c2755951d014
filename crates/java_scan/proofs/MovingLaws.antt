-- The elements and the fault of characters at other places.
use Rattle.std.proofs.Common.{◌≡◌, ℕ, ◌+◌, ◌≤◌, true, false, List, [], ◌∷◌, ◌++◌, length, map, encode_utf8_all, refl, sym, ap, ◌∙◌, subst, inl, inr, arith, IsTrue}
use Rattle.std.proofs.lemmas.Bool.{cases_Bool}
use Rattle.java_tree.specs.declared.outline.Level.{Level}
use Rattle.java_tree.specs.declared.token.Token.{Token}
use Rattle.java_tree.specs.declared.token.TokenKind.{TokenKind}
use Rattle.java_model.specs.Lexical.Characters.{single_quote, is_sub}
use Rattle.java_model.specs.Lexical.Escapes.{Input, characters_of, width_of, HasNoFront}
use Rattle.java_model.specs.Lexical.Comments.{IsTraditionalComment}
use Rattle.java_model.specs.Lexical.Quoted.{IsCharLiteral}
use Rattle.java_model.specs.Lexical.Elements.{Element, IsElement, begins_comment, IsNext}
use Rattle.java_model.specs.Lexical.Elements.Element.{white_space, traditional_comment, end_of_line_comment, token}
use Rattle.java_model.specs.Lexical.Tokens.{token_at, with_element, AreElements, without_sub}
use Rattle.java_model.specs.Lexical.Tokens.AreElements.{none, next}
use Rattle.java_model.specs.Lexical.Faults.{LexicalFault, IsBadBackslash, IsFaultAt}
use Rattle.java_model.specs.Lexical.Faults.LexicalFault.{bad_char}
use Rattle.java_model.specs.Lexical.Faults.IsFaultAt.{open_comment, open_string, string_escape, open_literal, empty_literal, literal_escape, long_literal, stray}
use Rattle.java_model.proofs.Lexical.NextLaws.{split_at, length_characters, characters_append}
use Rattle.java_scan.specs.Moving.{moved_token, moved_fault}

-- the same characters, and the place of each
abbrev pub IsPlaced : (ℕ → ℕ) → ℕ → List Input → ℕ → List Input → Type 0
IsPlaced place at [] to [] = place at ≡ to
IsPlaced place at [] to (y ∷ ys) = ⊥
IsPlaced place at (x ∷ xs) to [] = ⊥
IsPlaced place at (x ∷ xs) to (y ∷ ys) = (place at ≡ to) × (x.character ≡ y.character) × IsPlaced place (at + x.width) xs (to + y.width) ys

pub placed_here : (place : ℕ → ℕ) (at : ℕ) (xs : List Input) (to : ℕ) (ys : List Input) → IsPlaced place at xs to ys → place at ≡ to
placed_here place at [] to [] h = h
placed_here place at [] to (y ∷ ys) h = absurd h
placed_here place at (x ∷ xs) to [] h = absurd h
placed_here place at (x ∷ xs) to (y ∷ ys) h = h.0

placed_characters : (place : ℕ → ℕ) (at : ℕ) (xs : List Input) (to : ℕ) (ys : List Input)
    → IsPlaced place at xs to ys
    → characters_of xs ≡ characters_of ys
placed_characters place at [] to [] h = refl
placed_characters place at [] to (y ∷ ys) h = absurd h
placed_characters place at (x ∷ xs) to [] h = absurd h
placed_characters place at (x ∷ xs) to (y ∷ ys) h = let e = placed_characters place (at + x.width) xs (to + y.width) ys h.2 in let f : x.character ≡ y.character = h.1 in cc

record PlacedSplit (place : ℕ → ℕ) (at : ℕ) (front after : List Input) (to : ℕ) (ys : List Input) : Type 0 where
  begun : List Input
  left : List Input
  parted : ys ≡ begun ++ left
  same : characters_of front ≡ characters_of begun
  rest : IsPlaced place (at + width_of front) after (to + width_of begun) left

split_more : (place : ℕ → ℕ) (at to : ℕ) (x y : Input) (front after ys : List Input)
    → x.character ≡ y.character
    → PlacedSplit place (at + x.width) front after (to + y.width) ys
    → PlacedSplit place at (x ∷ front) after to (y ∷ ys)
split_more place at to x y front after ys e s =
    let from : at + x.width + width_of front ≡ at + width_of (x ∷ front) = omega arith in
    let into : to + y.width + width_of s.begun ≡ to + width_of (y ∷ s.begun) = omega arith in
    let same : characters_of front ≡ characters_of s.begun = s.same in
    record {
      begun = y ∷ s.begun;
      left = s.left;
      parted = ap (λ zs. y ∷ zs) s.parted;
      same = cc;
      rest = subst (λ n. IsPlaced place n after (to + width_of (y ∷ s.begun)) s.left) from (subst (λ n. IsPlaced place (at + x.width + width_of front) after n s.left) into s.rest);
    }

split_none : (place : ℕ → ℕ) (at to : ℕ) (after ys : List Input) → IsPlaced place at after to ys → PlacedSplit place at [] after to ys
split_none place at to after ys h =
    let from : at ≡ at + 0 = omega arith in
    let into : to ≡ to + 0 = omega arith in
    record {
      begun = [];
      left = ys;
      parted = refl;
      same = refl;
      rest = subst (λ n. IsPlaced place n after (to + 0) ys) from (subst (λ n. IsPlaced place at after n ys) into h);
    }

placed_split : (place : ℕ → ℕ) (front after : List Input) (at to : ℕ) (ys : List Input)
    → IsPlaced place at (front ++ after) to ys
    → PlacedSplit place at front after to ys
placed_split place [] after at to ys h = split_none place at to after ys h
placed_split place (x ∷ front) after at to [] h = absurd h
placed_split place (x ∷ front) after at to (y ∷ ys) h = split_more place at to x y front after ys h.1 (placed_split place front after (at + x.width) (to + y.width) ys h.2)

split_ends : (place : ℕ → ℕ) (front after : List Input) (at to : ℕ) (ys : List Input) (s : PlacedSplit place at front after to ys)
    → place (at + width_of front) ≡ to + width_of s.begun
split_ends place front after at to ys s = placed_here place (at + width_of front) after (to + width_of s.begun) s.left s.rest

-- elements

same_length : (xs ys : List Input) → characters_of xs ≡ characters_of ys → length xs ≡ length ys
same_length xs ys e = sym (length_characters xs) ∙ (ap length e ∙ length_characters ys)

next_placed : (level : Level) (xs ys : List Input) (e : Element) (front after begun left : List Input)
    → characters_of xs ≡ characters_of ys
    → IsNext level xs e front after
    → ys ≡ begun ++ left
    → characters_of front ≡ characters_of begun
    → IsNext level ys e begun left
next_placed level xs ys e front after begun left all is parted same = record {
  parted = parted;
  here = subst (IsElement level e) same is.here;
  longest = λ longer rest other p h.
      let s = split_at xs (characters_of longer) (characters_of rest) (all ∙ (ap characters_of p ∙ characters_append longer rest)) in
      let bound : length s.front ≤ length front = is.longest s.front s.after other s.parted (subst (IsElement level other) (sym s.before) h) in
      omega (arith, bound, same_length s.front longer s.before, same_length front begun same);
  comment = λ b. is.comment (subst (λ cs. IsTrue (begins_comment cs)) (sym all) b);
}

token_moved : (place : ℕ → ℕ) (kind : TokenKind) (at to : ℕ) (front begun : List Input)
    → place at ≡ to
    → place (at + width_of front) ≡ to + width_of begun
    → characters_of front ≡ characters_of begun
    → moved_token place (token_at kind at front) ≡ token_at kind to begun
token_moved place kind at to front begun starts ends same =
    let made : List ℕ → ℕ → ℕ → Token = λ cs start end. record { kind = kind; name = encode_utf8_all cs; span = record { start = start; end = end } } in
    ap (λ cs. made cs (place at) (place (at + width_of front))) same
    ∙ (ap (λ n. made (characters_of begun) n (place (at + width_of front))) starts ∙ ap (made (characters_of begun) to) ends)

element_moved : (place : ℕ → ℕ) (e : Element) (at to : ℕ) (front begun : List Input) (tokens : List Token)
    → place at ≡ to
    → place (at + width_of front) ≡ to + width_of begun
    → characters_of front ≡ characters_of begun
    → map (moved_token place) (with_element e at front tokens) ≡ with_element e to begun (map (moved_token place) tokens)
element_moved place white_space at to front begun tokens starts ends same = refl
element_moved place traditional_comment at to front begun tokens starts ends same = refl
element_moved place end_of_line_comment at to front begun tokens starts ends same = refl
element_moved place (token kind) at to front begun tokens starts ends same = ap (λ t. t ∷ map (moved_token place) tokens) (token_moved place kind at to front begun starts ends same)

pub record Carried (level : Level) (place : ℕ → ℕ) (to : ℕ) (ys : List Input) (tokens : List Token) (end : ℕ) (rest : List Input) : Type 0 where
  pub left : List Input
  pub elements : AreElements level to ys (map (moved_token place) tokens) (place end) left
  pub placed : IsPlaced place end rest (place end) left

carried_none : (level : Level) (place : ℕ → ℕ) (at : ℕ) (xs : List Input) (to : ℕ) (ys : List Input)
    → IsPlaced place at xs to ys
    → Carried level place to ys [] at xs
carried_none level place at xs to ys h =
    let e = placed_here place at xs to ys h in
    record { left = ys; elements = subst (λ n. AreElements level to ys [] n ys) (sym e) none; placed = subst (λ n. IsPlaced place at xs n ys) (sym e) h }

carried_next : (level : Level) (place : ℕ → ℕ) (at : ℕ) (xs : List Input) (to : ℕ) (ys : List Input) (e : Element) (front after : List Input) (tokens : List Token) (end : ℕ) (rest : List Input)
    → IsPlaced place at xs to ys
    → IsNext level xs e front after
    → (s : PlacedSplit place at front after to ys)
    → Carried level place (to + width_of s.begun) s.left tokens end rest
    → Carried level place to ys (with_element e at front tokens) end rest
carried_next level place at xs to ys e front after tokens end rest h is s c = record {
  left = c.left;
  elements =
      subst (λ ts. AreElements level to ys ts (place end) c.left) (sym (element_moved place e at to front s.begun tokens (placed_here place at xs to ys h) (split_ends place front after at to ys s) s.same))
      (next e s.begun s.left (next_placed level xs ys e front after s.begun s.left (placed_characters place at xs to ys h) is s.parted s.same) c.elements);
  placed = c.placed;
}

pub carried : {level : Level} {at : ℕ} {xs : List Input} {tokens : List Token} {end : ℕ} {rest : List Input}
    → AreElements level at xs tokens end rest
    → (place : ℕ → ℕ) (to : ℕ) (ys : List Input)
    → IsPlaced place at xs to ys
    → Carried level place to ys tokens end rest
carried {level} (none {at = at} {inputs = inputs}) place to ys h = carried_none level place at inputs to ys h
carried {level} (next {at = at} {end = end} {inputs = inputs} {rest = rest} {tokens = tokens} element front after is walk) place to ys h =
    let s = placed_split place front after at to ys (subst (λ xs. IsPlaced place at xs to ys) is.parted h) in
    carried_next level place at inputs to ys element front after tokens end rest h is s (carried walk place (to + width_of s.begun) s.left s.rest)

-- the fault

literal_moved : (level : Level) (place : ℕ → ℕ) (at : ℕ) (quote : Input) (rest ys : List Input)
    → IsPlaced place at (quote ∷ rest) (place at) ys
    → quote.character ≡ single_quote
    → IsBadBackslash (characters_of rest)
    → IsFaultAt level (place at) ys (bad_char (place (at + quote.width)))
literal_moved level place at quote rest [] h q bad = absurd h
literal_moved level place at quote rest (y ∷ ys) h q bad =
    subst (λ n. IsFaultAt level (place at) (y ∷ ys) (bad_char n)) (sym (placed_here place (at + quote.width) rest (place at + y.width) ys h.2))
    (literal_escape y ys refl (sym h.1 ∙ q) (subst IsBadBackslash (placed_characters place (at + quote.width) rest (place at + y.width) ys h.2) bad))

pub fault_moved : {level : Level} {at : ℕ} {xs : List Input} {fault : LexicalFault}
    → IsFaultAt level at xs fault
    → (place : ℕ → ℕ) (ys : List Input)
    → IsPlaced place at xs (place at) ys
    → IsFaultAt level (place at) ys (moved_fault place fault)
fault_moved {level} {at} {xs} (open_comment b apart) place ys h =
    let all = placed_characters place at xs (place at) ys h in
    open_comment (subst (λ cs. IsTrue (begins_comment cs)) all b) (subst (HasNoFront IsTraditionalComment) all apart)
fault_moved {level} {at} {xs} (open_string inside after c v o) place ys h = open_string inside after (sym (placed_characters place at xs (place at) ys h) ∙ c) v o
fault_moved {level} {at} {xs} (string_escape front rest inside e c v bad) place ys h =
    let s = placed_split place front rest at (place at) ys (subst (λ zs. IsPlaced place at zs (place at) ys) e h) in
    subst (λ n. IsFaultAt level (place at) ys (bad_char n)) (sym (split_ends place front rest at (place at) ys s))
    (string_escape s.begun s.left inside s.parted (sym s.same ∙ c) v (subst IsBadBackslash (placed_characters place (at + width_of front) rest (place at + width_of s.begun) s.left s.rest) bad))
fault_moved {level} {at} {xs} (open_literal after c o) place ys h = open_literal after (sym (placed_characters place at xs (place at) ys h) ∙ c) o
fault_moved {level} {at} {xs} (empty_literal after c) place ys h = empty_literal after (sym (placed_characters place at xs (place at) ys h) ∙ c)
fault_moved {level} {at} {xs} (literal_escape quote rest e q bad) place ys h = literal_moved level place at quote rest ys (subst (λ zs. IsPlaced place at zs (place at) ys) e h) q bad
fault_moved {level} {at} {xs} (long_literal inside after c one apart) place ys h =
    let all = placed_characters place at xs (place at) ys h in
    long_literal inside after (sym all ∙ c) one (subst (HasNoFront IsCharLiteral) all apart)
fault_moved {level} {at} {xs} (stray c after e apart) place ys h = stray c after (sym (placed_characters place at xs (place at) ys h) ∙ e) apart

-- without a last Sub

pub sub_placed : (place : ℕ → ℕ) (at : ℕ) (xs : List Input) (to : ℕ) (ys : List Input)
    → IsPlaced place at xs to ys
    → IsPlaced place at (without_sub xs) to (without_sub ys)
sub_placed place at [] to [] h = h
sub_placed place at [] to (y ∷ ys) h = absurd h
sub_placed place at (x ∷ xs) to [] h = absurd h
sub_placed place at (x ∷ []) to (y ∷ []) h = elim (cases_Bool (is_sub x.character)) [
  | inl e ↦ let f : is_sub y.character ≡ true = ap is_sub (sym h.1) ∙ e in rw (e, f) h.0
  | inr e ↦ let f : is_sub y.character ≡ false = ap is_sub (sym h.1) ∙ e in rw (e, f) h
]
sub_placed place at (x ∷ []) to (y ∷ second ∷ ys) h = absurd h.2
sub_placed place at (x ∷ following ∷ xs) to (y ∷ []) h = absurd h.2
sub_placed place at (x ∷ following ∷ xs) to (y ∷ second ∷ ys) h = (h.0, h.1, sub_placed place (at + x.width) (following ∷ xs) (to + y.width) (second ∷ ys) h.2)

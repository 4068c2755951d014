-- Keys of the index as words, and the order of words.
use Rattle.std.specs.Prelude.{ℕ, suc, Bool, true, false, ◌&&◌, ◌||◌, nat_lt, nat_le, ◌==◌, if◌then◌else◌, List, [], ◌∷◌, map, count_by}
use Rattle.std.specs.Str.{is_utf8}
use Rattle.java_tree.specs.declared.key.Category.{Category}
use Rattle.java_tree.specs.declared.key.Category.TheVariants.{PackageDecl, TypeDecl, SuperRef, MethodDecl, MethodRef, ConstructorDecl, ConstructorRef, FieldDecl, Ref}
use Rattle.java_tree.specs.declared.key.Key.{Key}

-- the byte with which a category's words begin
abbrev pub category_byte : Category → ℕ
category_byte PackageDecl = 1
category_byte TypeDecl = 2
category_byte SuperRef = 3
category_byte MethodDecl = 4
category_byte MethodRef = 5
category_byte ConstructorDecl = 6
category_byte ConstructorRef = 7
category_byte FieldDecl = 8
category_byte Ref = 9

-- the category of the words that begin with this byte, which is one of 1 to 9
abbrev pub category_at : ℕ → Category
category_at b =
    if b == 1 then PackageDecl else (if b == 2 then TypeDecl else (if b == 3 then SuperRef
    else (if b == 4 then MethodDecl else (if b == 5 then MethodRef else (if b == 6 then ConstructorDecl
    else (if b == 7 then ConstructorRef else (if b == 8 then FieldDecl else Ref)))))))

-- how many fields a key has: a name; name, qualification and kind; simple name, subtype, package and how; name and count
abbrev pub field_count : Category → ℕ
field_count PackageDecl = 1
field_count TypeDecl = 3
field_count SuperRef = 4
field_count MethodDecl = 2
field_count MethodRef = 2
field_count ConstructorDecl = 2
field_count ConstructorRef = 2
field_count FieldDecl = 1
field_count Ref = 1

-- the fields of a text, which `/` separates
abbrev pub fields_in : List ℕ → ℕ
fields_in text = suc (count_by (λ b. b == 47) text)

-- a key of the category: a text with its fields
abbrev pub is_key : Category → List ℕ → Bool
is_key category text = is_utf8 text && fields_in text == field_count category

-- the word of a key: a category's byte, and a text with the category's fields
abbrev pub is_word : List ℕ → Bool
is_word [] = false
is_word (b ∷ text) = nat_le 1 b && nat_le b 9 && is_key (category_at b) text

-- a key's word: its category's byte and its text
abbrev pub word_of : Key → List ℕ
word_of key = category_byte key.category ∷ key.text

-- the first text comes before the second in the order of bytes
abbrev pub is_before : List ℕ → List ℕ → Bool
is_before xs [] = false
is_before [] (y ∷ ys) = true
is_before (x ∷ xs) (y ∷ ys) = nat_lt x y || (x == y && is_before xs ys)

-- the texts strictly rise, and the first comes after this one
abbrev pub is_rising_after : List ℕ → List (List ℕ) → Bool
is_rising_after text [] = true
is_rising_after text (next ∷ more) = is_before text next && is_rising_after next more

-- the texts strictly rise
abbrev pub is_rising : List (List ℕ) → Bool
is_rising [] = true
is_rising (text ∷ more) = is_rising_after text more

-- the keys strictly rise by their words
abbrev pub have_rising_words : List Key → Bool
have_rising_words keys = is_rising (map word_of keys)

-- Laws on the words of sources and sinks, for their callers.
use Rattle.std.proofs.Common.{◌≡◌, ℕ, ◌≤◌, List, [], ◌++◌, Option, None, Some, refl, sym, ◌∙◌, ap, append_assoc, append-nil, take, drop, length, length-append, take-append-drop, arith}
use Rattle.jx_io.specs.Stream.{CountedOne, Rose, Takes, HasEnded, Appends, AppendsPrefix}

-- a count of one fault more has risen
pub Rose-one : (before now : ℕ) → CountedOne before now → Rose before now
Rose-one before now one = omega arith

-- a count that rose after it didn't fall has risen
pub Rose-after : (earlier before now : ℕ) → earlier ≤ before → Rose before now → Rose earlier now
Rose-after earlier before now went rose = omega arith

-- a count that rose and didn't fall afterwards has risen
pub Rose-before : (before now later : ℕ) → Rose before now → now ≤ later → Rose before later
Rose-before before now later rose goes = omega arith

-- nothing was taken where nothing changed
pub Takes-nil : (left : Option (List ℕ)) → Takes left left []
Takes-nil None = tt
Takes-nil (Some left) = refl

-- what was taken first, and then what was taken next
pub Takes-append : (a b c : Option (List ℕ)) (x y : List ℕ) → Takes a b x → Takes b c y → Takes a c (x ++ y)
Takes-append None None None x y p q = tt
Takes-append None None (Some c) x y p q = q
Takes-append None (Some b) c x y p q = absurd p
Takes-append (Some a) None c x y p q = absurd p
Takes-append (Some a) (Some b) None x y p q = q
Takes-append (Some a) (Some b) (Some c) x y p q = p ∙ ap (λ l. x ++ l) q ∙ sym (append_assoc x y c)

-- what was taken up to the end is all that was left
pub Takes-all : (xs : List ℕ) (new : Option (List ℕ)) (bytes : List ℕ) → Takes (Some xs) new bytes → HasEnded new → bytes ≡ xs
Takes-all xs None bytes p ended = absurd p
Takes-all xs (Some ys) bytes p ended = sym (append-nil bytes) ∙ ap (λ l. bytes ++ l) (sym ended) ∙ sym p

-- no more was taken than was left
pub Takes-length : (xs : List ℕ) (new : Option (List ℕ)) (bytes : List ℕ) → Takes (Some xs) new bytes → length bytes ≤ length xs
Takes-length xs None bytes p = absurd p
Takes-length xs (Some ys) bytes p = omega (arith, ap length p, length-append bytes ys)

-- nothing was appended where nothing changed
pub Appends-nil : (written : Option (List ℕ)) → Appends written written []
Appends-nil None = tt
Appends-nil (Some written) = sym (append-nil written)

-- what was appended first, and then what was appended next
pub Appends-append : (a b c : Option (List ℕ)) (x y : List ℕ) → Appends a b x → Appends b c y → Appends a c (x ++ y)
Appends-append None None None x y p q = tt
Appends-append None None (Some c) x y p q = q
Appends-append None (Some b) c x y p q = absurd p
Appends-append (Some a) None c x y p q = absurd p
Appends-append (Some a) (Some b) None x y p q = q
Appends-append (Some a) (Some b) (Some c) x y p q = q ∙ ap (λ l. l ++ y) p ∙ append_assoc a x y

-- what is shown after bytes were appended
pub Appends-shown : (old : List ℕ) (new : Option (List ℕ)) (bytes : List ℕ) → Appends (Some old) new bytes → new ≡ Some (old ++ bytes)
Appends-shown old None bytes p = absurd p
Appends-shown old (Some written) bytes p = ap (λ l. Some l) p

-- a prefix of the text was appended where its first n bytes were
pub AppendsPrefix-from_take : (old new : Option (List ℕ)) (text : List ℕ) (n : ℕ) → Appends old new (take n text) → AppendsPrefix old new text
AppendsPrefix-from_take old new text n p = record { prefix = take n text; rest = drop n text; parts = sym (take-append-drop n text); appended = p }

-- a prefix of the text was appended where all of it was
pub AppendsPrefix-from_all : (old new : Option (List ℕ)) (text : List ℕ) → Appends old new text → AppendsPrefix old new text
AppendsPrefix-from_all old new text p = record { prefix = text; rest = []; parts = sym (append-nil text); appended = p }

-- a prefix of any text was appended where nothing changed
pub AppendsPrefix-nil : (written : Option (List ℕ)) (text : List ℕ) → AppendsPrefix written written text
AppendsPrefix-nil written text = record { prefix = []; rest = text; parts = refl; appended = Appends-nil written }

-- what was appended first, and then a prefix of what comes next
pub AppendsPrefix-append : (a b c : Option (List ℕ)) (x y : List ℕ) → Appends a b x → AppendsPrefix b c y → AppendsPrefix a c (x ++ y)
AppendsPrefix-append a b c x y p q = record {
  prefix = x ++ q.prefix;
  rest = q.rest;
  parts = ap (λ l. x ++ l) q.parts ∙ sym (append_assoc x q.prefix q.rest);
  appended = Appends-append a b c x q.prefix p q.appended;
}

-- a prefix of a text is one of a longer text
pub AppendsPrefix-longer : (old new : Option (List ℕ)) (x y : List ℕ) → AppendsPrefix old new x → AppendsPrefix old new (x ++ y)
AppendsPrefix-longer old new x y p = record {
  prefix = p.prefix;
  rest = p.rest ++ y;
  parts = ap (λ l. l ++ y) p.parts ∙ append_assoc p.prefix p.rest y;
  appended = p.appended;
}

-- what was appended over several calls, of which the last may have failed: `search (rules, prefixes)`
pub ruleset prefixes = (Appends-nil, Appends-append, AppendsPrefix-nil, AppendsPrefix-from_all, AppendsPrefix-append, AppendsPrefix-longer)

-- Lists that readers read: sound and complete.
use Rattle.std.proofs.Common.{◌≡◌, ℕ, zero, suc, ◌<◌, ◌≤◌, List, [], ◌∷◌, ◌++◌, length, replicate, Option, Some, None, refl, sym, ap, ◌∙◌, subst, append_assoc, arith}
use Rattle.std.specs.List.{AllByRecursion}
use Rattle.std.proofs.lemmas.List.{append-nil, length-replicate}
use Rattle.java_tree.specs.declared.unit.TypeDecl.{TypeDecl}
use Rattle.java_model.specs.Grammar.Signs.{Sign}
use Rattle.java_model.specs.Grammar.Forms.{IsNonEmpty}
use Rattle.java_model.specs.Grammar.Pieces.{Piece, Around}
use Rattle.java_model.specs.Grammar.Units.{Stage, Spells, spells_nothing, spells_token, spells_type}
use Rattle.java_model.proofs.Grammar.Reads.{spells_split}
use Rattle.java_unit_reading.specs.Reading.Steps.{State, state, Outcome, Done, Parser, many_more, many}
use Rattle.java_unit_reading.specs.Reading.Members.{unfinished}
use Rattle.java_unit_reading.proofs.Sounding.{Stands, stands_both, IfDone, done, fails, then, weaken}
use Rattle.java_unit_reading.proofs.Completing.{At, Gives, Complete, then_gives}

-- the pieces of each, one after another; each may change what is around the next
abbrev pub spread : {A : Type 0} → (A → Around → List Piece) → (A → Around → Around) → List A → Around → List Piece
spread Y L [] a = []
spread Y L (x ∷ xs) a = Y x a ++ spread Y L xs (L x a)

-- nothing changes
abbrev pub stays : {A : Type 0} → A → Around → Around
stays x a = a

-- an item, or that none begins
abbrev pub ItemStands : {A : Type 0} → (Around → Type 0) → (A → Type 0) → (A → Around → List Piece) → State → Option A → State → Type 0
ItemStands In P Y s None t = Stands [] s t
ItemStands In P Y s (Some x) t = P x × ((a : Around) → In a → Stands (Y x a) s t)

pub record ListStands {A : Type 0} (In : Around → Type 0) (P : A → Type 0) (Y : A → Around → List Piece) (L : A → Around → Around) (found : List A) (s : State) (all : List A) (t : State) : Type 0 where
  pub more : List A
  pub is : all ≡ found ++ more
  pub shapes : AllByRecursion P more
  pub stands : (a : Around) → In a → Stands (spread Y L more a) s t

module _ {A : Type 0} (In : Around → Type 0) (P : A → Type 0) (Y : A → Around → List Piece) (L : A → Around → Around) (item : Parser (Option A))
    (keeps : (x : A) (a : Around) → P x → In a → In (L x a))
    (sound : (s : State) → IfDone (ItemStands In P Y s) (item s)) where
  sound_more : (again : List A → Parser (List A)) → ((found : List A) (s : State) → IfDone (ListStands In P Y L found s) (again found s))
      → (found : List A) (s : State) (o : Option A) (t : State) → ItemStands In P Y s o t
      → IfDone (ListStands In P Y L found s) (many_more again found o t)
  sound_more again rest found s None t h = done (record { more = []; is = sym (append-nil found); shapes = tt; stands = λ a inside. h })
  sound_more again rest found s (Some x) t h =
      weaken (rest (found ++ x ∷ []) t) (λ all u g. record {
        more = x ∷ g.more;
        is = g.is ∙ append_assoc found (x ∷ []) g.more;
        shapes = (h.0, g.shapes);
        stands = λ a inside. stands_both (h.1 a inside) (g.stands (L x a) (keeps x a h.0 inside));
      })

  pub sound_many : (n : ℕ) (found : List A) (s : State) → IfDone (ListStands In P Y L found s) (many item n found s)
  unfolding many
  sound_many zero found s = fails
  sound_many (suc n) found s = then (sound s) (λ o t h. sound_more (many item n) (sound_many n) found s o t h)

abbrev done_with : {A : Type 0} → List A → State → Outcome (List A)
done_with xs s = Done xs s

-- a state at a stage
abbrev somewhere : Stage → State
somewhere p = state (replicate p.number unfinished) p.tokens

at_somewhere : (p : Stage) → At ((somewhere p).types ++ p.types) (somewhere p) p
at_somewhere p = record { tokens = refl; number = length-replicate p.number unfinished; whole = refl }

-- Each piece but a hole is a token, and in a hole stands a `{`.
pub record Shorter (ps : List Piece) (p q : Stage) : Type 0 where
  pub weak : length q.tokens ≤ length p.tokens
  pub strict : IsNonEmpty ps → length q.tokens < length p.tokens

pub some_piece : (xs : List Piece) (x : Piece) (ys : List Piece) → IsNonEmpty (xs ++ x ∷ ys)
some_piece [] x ys = tt
some_piece (y ∷ xs) x ys = tt

pub shorter : {ps : List Piece} {p q : Stage} → Spells ps p q → Shorter ps p q
shorter (spells_nothing _) = record { weak = omega arith; strict = λ h. absurd h }
shorter (spells_token x ps ts p q e g) =
    let rest = shorter g in
    let len : length p.tokens ≡ suc (length ts) = ap length e in
    record { weak = omega (arith, rest.weak); strict = λ h. omega (arith, rest.weak) }
shorter (spells_type k ps d types p m q e shape g rest) =
    let inner = shorter g in
    let outer = shorter rest in
    let less : length m.tokens < length p.tokens = inner.strict (some_piece _ _ _) in
    record { weak = omega (arith, outer.weak); strict = λ h. omega (arith, outer.weak) }

module _ {A : Type 0} (In : Around → Type 0) (P : A → Type 0) (Y : A → Around → List Piece) (L : A → Around → Around) (item : Parser (Option A)) (E F : List Sign → Type 0)
    (keeps : (x : A) (a : Around) → P x → In a → In (L x a))
    (reads : (x : A) (a : Around) → P x → In a → Complete item (Y x a) (Some x) F)
    (stops : (s : State) → E s.tokens → item s ≡ Done None s)
    (begins : (x : A) (s t : State) → item s ≡ Done (Some x) t → F s.tokens)
    (last : (ts : List Sign) → E ts → F ts)
    (some : (x : A) (a : Around) → P x → IsNonEmpty (Y x a)) where
  -- what stands behind an item, before the next one or the end
  pub behind_item : (xs : List A) (a : Around) (p q : Stage) → AllByRecursion P xs → In a → Spells (spread Y L xs a) p q → E q.tokens → F p.tokens
  behind_item [] a p q h inside (spells_nothing _) e = last p.tokens e
  behind_item (x ∷ xs) a p q h inside g e =
      spells_split (Y x a) (spread Y L xs (L x a)) p q g (λ m l r.
      let found = reads x a h.0 inside _ (somewhere p) p m (at_somewhere p) l (behind_item xs (L x a) m q h.1 (keeps x a h.0 inside) r e) in
      begins x (somewhere p) found.end found.is)

  pub many_gives : (xs : List A) (a : Around) (n : ℕ) (found : List A) (total : List TypeDecl) (s : State) (p q : Stage)
      → AllByRecursion P xs → In a → length s.tokens < n
      → At total s p → Spells (spread Y L xs a) p q → E q.tokens → Gives total (found ++ xs) q (many item n found s)
  unfolding many
  many_gives xs a zero found total s p q h inside few at g e = absurd (omega arith)
  many_gives [] a (suc n) found total s p q h inside few at (spells_nothing _) e =
      record { end = s; at = at; is = rw (stops s (subst E (sym at.tokens) e), append-nil found) refl }
  many_gives (x ∷ xs) a (suc n) found total s p q h inside few at g e =
      spells_split (Y x a) (spread Y L xs (L x a)) p q g (λ m l r.
      then_gives (item s) (many_more (many item n) found) (reads x a h.0 inside total s p m at l (behind_item xs (L x a) m q h.1 (keeps x a h.0 inside) r e)) (λ t at2.
      let short = (shorter l).strict (some x a h.0) in
      let here : length s.tokens ≡ length p.tokens = ap length at.tokens in
      let there : length t.tokens ≡ length m.tokens = ap length at2.tokens in
      let rest = many_gives xs (L x a) n (found ++ x ∷ []) total t m q h.1 (keeps x a h.0 inside) (omega arith) at2 r e in
      record { end = rest.end; at = rest.at; is = rest.is ∙ ap (λ ys. done_with ys rest.end) (append_assoc found (x ∷ []) xs) }))

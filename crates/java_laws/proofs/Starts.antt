-- What the tokens that a tree of nodes spells weigh, each counted once, by a weight of spans.
use Rattle.std.proofs.Common.{◌≡◌, ◌≤◌, ◌+◌, ℕ, zero, suc, List, [], ◌∷◌, ◌++◌, Some, map, ap, subst, arith}
use Rattle.std.specs.List.{AllByRecursion}
use Rattle.java_tree.specs.declared.names.Ident.{Ident}
use Rattle.java_tree.specs.declared.mark.Mark.TheVariants as marks
use Rattle.java_tree.specs.declared.token.Span.{Span}
use Rattle.java_tree.specs.declared.unit.TypeDecl.{TypeDecl}
use Rattle.java_model.specs.Tree.Nodes.{Node}
use Rattle.java_model.specs.Tree.Children.{numbered}
use Rattle.java_model.specs.Grammar.Signs.{Sign, mark, this, super, word}
use Rattle.java_model.specs.Grammar.Pieces.{Yield, Piece, token, hole, Around, each, behind_commas, parted, dotted, yield_name, yield_dims}
use Rattle.java_model.specs.Grammar.Units.{Stage, stage, Spells, spells_nothing, spells_token, spells_type}
use Rattle.java_model.specs.Grammar.YieldUnit.{yield_type_decl}
use Rattle.java_model.specs.Occurrences.References.{whole_span}
use Rattle.java_model.proofs.Grammar.Reads.{spells_split, spells_token_of}

abbrev pub idents-by : (Span → ℕ) → List Ident → ℕ
idents-by weigh [] = 0
idents-by weigh (i ∷ is) = weigh i.span + idents-by weigh is

-- what a span weighs; from the first identifier of a name to its last no more than they all do
pub record Weight : Type 0 where
  pub weigh : Span → ℕ
  pub wide : (i : Ident) (is : List Ident) → weigh (whole_span (i ∷ is)) ≤ idents-by weigh (i ∷ is)

abbrev pub weight : Weight → Sign → ℕ
weight at (word i) = at.weigh i.span
weight at (this s) = at.weigh s
weight at (super s) = at.weigh s
weight at _ = 0

abbrev pub weights : Weight → List Sign → ℕ
weights at [] = 0
weights at (x ∷ xs) = weight at x + weights at xs

abbrev pub idents : Weight → List Ident → ℕ
idents at is = idents-by at.weigh is

abbrev pub total : (Node → ℕ) → List Node → ℕ
total T [] = 0
total T (n ∷ ns) = T n + total T ns

pub total-append : (T : Node → ℕ) (ns ms : List Node) → total T (ns ++ ms) ≡ total T ns + total T ms
total-append T [] ms = omega arith
total-append T (n ∷ ns) ms = let e = total-append T ns ms in omega (arith, e)

-- the types of a unit, each found by its brace
pub record Known (types : List TypeDecl) (d : TypeDecl) : Type 0 where
  pub number : ℕ
  pub is : numbered types d.brace ≡ Some (record { number = number; type = d })

abbrev pub Knows : List TypeDecl → List TypeDecl → Type 0
Knows types = AllByRecursion (Known types)

-- Between two stages stand so many tokens, and those of these nodes.
pub record Fewer (at : Weight) (types : List TypeDecl) (n : ℕ) (s t : Stage) : Type 0 where
  pub fewer : n + weights at t.tokens ≤ weights at s.tokens
  pub knows : Knows types t.types

pub record Holds (at : Weight) (types : List TypeDecl) (T : Node → ℕ) (ps : List Piece) (k : ℕ) (ns : List Node) : Type 0 where
  pub keeps : (s t : Stage) → Spells ps s t → Knows types s.types → Fewer at types (k + total T ns) s t

module _ (at : Weight) (types : List TypeDecl) (T : Node → ℕ) where
  nothing-kept : (s t : Stage) → Spells [] s t → Knows types s.types → Fewer at types 0 s t
  nothing-kept s t (spells_nothing _) h = record { fewer = omega arith; knows = h }

  pub nothing : Holds at types T [] 0 []
  nothing = record { keeps = nothing-kept }

  pub both : (ps qs : List Piece) (k l : ℕ) (ns ms : List Node) → Holds at types T ps k ns → Holds at types T qs l ms
      → Holds at types T (ps ++ qs) (k + l) (ns ++ ms)
  both ps qs k l ns ms h g = record {
    keeps = λ s t x w. spells_split ps qs s t x (λ m y z.
        let a = h.keeps s m y w in
        let b = g.keeps m t z a.knows in
        let e = total-append T ns ms in
        let p = a.fewer in
        let q = b.fewer in
        record { fewer = omega (arith, e, p, q); knows = b.knows });
  }

  -- at least so many
  pub fit : (ps : List Piece) (k l : ℕ) (ns ms : List Node) → l + total T ms ≤ k + total T ns → Holds at types T ps k ns → Holds at types T ps l ms
  fit ps k l ns ms e h = record {
    keeps = λ s t x w. let a = h.keeps s t x w in let p = a.fewer in record { fewer = omega (arith, e, p); knows = a.knows };
  }

  pub next : (x : Sign) (ps : List Piece) (k : ℕ) (ns : List Node) → Holds at types T ps k ns → Holds at types T (token x ∷ ps) (weight at x + k) ns
  next x ps k ns h = record {
    keeps = λ s t y w. spells_token_of x ps s t y (λ tokens e g.
        let a = h.keeps (stage s.number s.types tokens) t g w in
        let p = a.fewer in
        let q = ap (weights at) e in
        record { fewer = omega (arith, p, q); knows = a.knows });
  }

  pub skip : (x : Sign) (ps : List Piece) (k : ℕ) (ns : List Node) → Holds at types T ps k ns → Holds at types T (token x ∷ ps) k ns
  skip x ps k ns h = fit (token x ∷ ps) (weight at x + k) k ns ns (omega arith) (next x ps k ns h)

  pub one-token : (x : Sign) → Holds at types T (token x ∷ []) 0 []
  one-token x = skip x [] 0 [] nothing

  pub behind : (ps qs : List Piece) (ns ms : List Node) → Holds at types T ps 0 ns → Holds at types T qs 0 ms → Holds at types T (ps ++ qs) 0 (ns ++ ms)
  behind ps qs ns ms h g = both ps qs 0 0 ns ms h g

  -- before and behind what counts nothing
  pub before-plain : (ps qs : List Piece) (k : ℕ) (ns : List Node) → Holds at types T ps k ns → Holds at types T qs 0 [] → Holds at types T (ps ++ qs) k ns
  before-plain ps qs k ns h g =
      let e = total-append T ns [] in
      fit (ps ++ qs) (k + 0) k (ns ++ []) ns (omega (arith, e)) (both ps qs k 0 ns [] h g)

  pub behind-plain : (ps qs : List Piece) (k : ℕ) (ns : List Node) → Holds at types T ps 0 [] → Holds at types T qs k ns → Holds at types T (ps ++ qs) k ns
  behind-plain ps qs k ns h g = fit (ps ++ qs) (0 + k) k ns ns (omega arith) (both ps qs 0 k [] ns h g)

  pub dotted-holds : (n : List Ident) → Holds at types T (dotted n) (idents at n) []
  dotted-holds [] = nothing
  dotted-holds (i ∷ n) = skip (mark marks.Dot) _ _ [] (next (word i) _ _ [] (dotted-holds n))

  pub name-holds : (n : List Ident) → Holds at types T (yield_name n) (idents at n) []
  name-holds [] = nothing
  name-holds (i ∷ n) = next (word i) _ _ [] (dotted-holds n)

  pub dims-hold : (n : ℕ) → Holds at types T (yield_dims n) 0 []
  dims-hold zero = nothing
  dims-hold (suc n) = skip (mark marks.LeftBracket) _ 0 [] (skip (mark marks.RightBracket) _ 0 [] (dims-hold n))

  pub between : (x y : Sign) (ps : List Piece) (ns : List Node) → Holds at types T ps 0 ns → Holds at types T (token x ∷ (ps ++ token y ∷ [])) 0 ns
  between x y ps ns h = skip x _ 0 ns (before-plain ps _ 0 ns h (one-token y))

  module _ {X : Type 0} (f : X → Yield) (g : X → Node) (h : (x : X) (a : Around) → Holds at types T (f x a) 0 (g x ∷ [])) where
    pub each-holds : (xs : List X) (a : Around) → Holds at types T (each (map f xs) a) 0 (map g xs)
    each-holds [] a = nothing
    each-holds (x ∷ xs) a = behind (f x a) _ (g x ∷ []) (map g xs) (h x a) (each-holds xs a)

    commas-hold : (xs : List X) (a : Around) → Holds at types T (behind_commas (map f xs) a) 0 (map g xs)
    commas-hold [] a = nothing
    commas-hold (x ∷ xs) a = skip (mark marks.Comma) _ 0 _ (behind (f x a) _ (g x ∷ []) (map g xs) (h x a) (commas-hold xs a))

    pub parted-holds : (xs : List X) (a : Around) → Holds at types T (parted (map f xs) a) 0 (map g xs)
    parted-holds [] a = nothing
    parted-holds (x ∷ xs) a = behind (f x a) _ (g x ∷ []) (map g xs) (h x a) (commas-hold xs a)

-- tokens alone grow fewer, where no node counts
falls : (at : Weight) (types : List TypeDecl) (ps : List Piece) (s t : Stage) → Spells ps s t → Knows types s.types → Fewer at types 0 s t
falls at types [] s t (spells_nothing _) w = record { fewer = omega arith; knows = w }
falls at types (token x ∷ ps) s t (spells_token _ _ tokens _ _ e g) w =
    let a = falls at types ps _ t g w in
    let p = a.fewer in
    let q = ap (weights at) e in
    record { fewer = omega (arith, p, q); knows = a.knows }
falls at types (hole h ∷ ps) s t (spells_type _ _ d ds _ m _ e shape g rest) w =
    let v = subst (λ xs. Knows types xs) e w in
    let a = falls at types (yield_type_decl s.number h d) _ m g v.1 in
    let b = falls at types ps m t rest a.knows in
    let p = a.fewer in
    let q = b.fewer in
    record { fewer = omega (arith, p, q); knows = b.knows }

pub none-hold : (at : Weight) (types : List TypeDecl) (ps : List Piece) (n : Node) → Holds at types (λ n. 0) ps 0 (n ∷ [])
none-hold at types ps n = record { keeps = λ s t x w. falls at types ps s t x w }

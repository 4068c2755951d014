-- Steps of a walk through the tree: a node with what is inside it and what it names.
use Rattle.std.proofs.Common.{◌≡◌, List, [], ◌∷◌, ◌++◌, refl, sym, subst, append-nil}
use Rattle.java_tree.specs.declared.bound.Bound.{Bound}
use Rattle.java_tree.specs.declared.expr.First.{First}
use Rattle.java_tree.specs.declared.occurrence.Access.TheVariants.{Read}
use Rattle.java_tree.specs.declared.occurrence.Occurrence.{Occurrence}
use Rattle.java_tree.specs.declared.types.JType.{JType}
use Rattle.java_model.specs.Bindings.Chains.{Types}
use Rattle.java_model.specs.Bindings.Values.{node_types}
use Rattle.java_model.specs.Occurrences.Occurrences.{java_rules, node_names}
use Rattle.java_model.specs.Scopes.Contexts.{Context}
use Rattle.java_model.specs.Scopes.Scoping.{Spot, inside}
use Rattle.java_model.specs.Tree.Nodes.{Node}
use Rattle.java_model.specs.Tree.Nodes as nodes
use Rattle.java_model.proofs.Grammar.Layers.{out-expr-Postfix, out-first-Call, out-first-Literal, out-first-New, out-initializer-Value}
use Rattle.java_model.proofs.Grammar.LayersStmt.{out-stmt-Expression, out-block_statement-Local, out-block_statement-Statement}
use Rattle.java_model.proofs.Walks.{Walked, nothing-walked, one-more-walked}
use Rattle.java_laws.proofs.UsualSource.Source.{primary, plain}

-- the forms that the source has, opened
pub ruleset outs = (
  out-expr-Postfix,
  out-first-Call,
  out-first-Literal,
  out-first-New,
  out-initializer-Value,
  out-stmt-Expression,
  out-block_statement-Local,
  out-block_statement-Statement,
)

abbrev pub spot : List Bound → Node → Spot
spot s n = record { scope = s; node = n }

-- a node in its scope: what is inside it, and with the types of these parts its own types and what it names itself
pub record Is (C : Context) (s : List Bound) (n : Node) (parts : List Spot) (of_parts : List Types) (ts : Types) (found : List Occurrence)
    : Type 0 where
  pub within : inside C (spot s n) ≡ parts
  pub types : node_types C s n of_parts ≡ ts
  pub names : node_names C s n of_parts ≡ found

abbrev pub Walk : Context → List Spot → List Types → List Occurrence → Type 0
Walk C = Walked (java_rules C)

pub nothing : (C : Context) → Walk C [] [] []
nothing C = nothing-walked (java_rules C)

-- one node more, after what was found inside it
pub step : {C : Context} {xs : List Spot} {vs : List Types} {os : List Occurrence} {s : List Bound} {n : Node} {ys : List Spot} {parts : List Types}
    {ts : Types} {below found : List Occurrence} → Is C s n ys parts ts found → Walk C xs vs os → Walk C ys parts below
    → Walk C (xs ++ spot s n ∷ []) (vs ++ ts ∷ []) (os ++ (below ++ found))
step {C = C} {xs = xs} {vs = vs} {os = os} {s = s} {n = n} {ys = ys} {parts = parts} {ts = ts} {below = below} is w inner =
    subst (λ ns. Walk C (xs ++ spot s n ∷ []) (vs ++ ts ∷ []) (os ++ (below ++ ns))) is.names
    (subst (λ us. Walk C (xs ++ spot s n ∷ []) (vs ++ us ∷ []) (os ++ (below ++ node_names C s n parts))) is.types
    (one-more-walked (java_rules C) xs vs os (spot s n) parts below w (subst (λ zs. Walk C zs parts below) (sym is.within) inner)))

-- a node alone
pub sole : {C : Context} {s : List Bound} {n : Node} {ys : List Spot} {parts : List Types} {ts : Types} {below found : List Occurrence}
    → Is C s n ys parts ts found → Walk C ys parts below → Walk C (spot s n ∷ []) (ts ∷ []) (below ++ found)
sole {C = C} is inner = step is (nothing C) inner

-- a node alone that names nothing itself
pub silent : {C : Context} {s : List Bound} {n : Node} {ys : List Spot} {parts : List Types} {ts : Types} {below : List Occurrence}
    → Is C s n ys parts ts [] → Walk C ys parts below → Walk C (spot s n ∷ []) (ts ∷ []) below
silent {C = C} {s = s} {n = n} {ts = ts} {below = below} is inner = subst (Walk C (spot s n ∷ []) (ts ∷ [])) (append-nil below) (sole is inner)

-- an expression that is one primary without selectors
primary-is : (C : Context) (s : List Bound) (f : First) (t : JType)
    → Is C s (nodes.primary Read (primary f)) (spot s (nodes.first Read f) ∷ []) ((t ∷ []) ∷ []) (t ∷ []) []
primary-is C s f t = record { within = rw (append-nil s) refl; types = refl; names = refl }

plain-is : (C : Context) (s : List Bound) (f : First) (t : JType)
    → Is C s (nodes.expression Read (plain f)) (spot s (nodes.primary Read (primary f)) ∷ []) ((t ∷ []) ∷ []) (t ∷ []) []
plain-is C s f t = record {
  within = rw (out-expr-Postfix (primary f) [], append-nil s) refl;
  types = rw (out-expr-Postfix (primary f) []) refl;
  names = refl;
}

pub expression : {C : Context} {s : List Bound} {f : First} {ys : List Spot} {parts : List Types} {t : JType} {below found : List Occurrence}
    → Is C s (nodes.first Read f) ys parts (t ∷ []) found → Walk C ys parts below
    → Walk C (spot s (nodes.expression Read (plain f)) ∷ []) ((t ∷ []) ∷ []) (below ++ found)
expression {C = C} {s = s} {f = f} {t = t} is inner = silent (plain-is C s f t) (silent (primary-is C s f t) (sole is inner))

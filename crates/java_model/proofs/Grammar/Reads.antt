-- Pieces that stand in tokens: one after another, and in one way only.
use Rattle.std.proofs.Common.{◌≡◌, zero, suc, List, [], ◌∷◌, ◌++◌, map, refl, sym, ◌∙◌, subst}
use Rattle.java_tree.specs.declared.unit.TypeDecl.{TypeDecl}
use Rattle.java_model.specs.Grammar.Signs.{Sign}
use Rattle.java_model.specs.Grammar.Pieces.{Piece, token, hole, Hole}
use Rattle.java_model.specs.Grammar.Runs.{Reads, after_body}
use Rattle.java_model.specs.Grammar.Units.{Stage, stage, Spells, spells_nothing, spells_token, spells_type, IsTypeDecl}
use Rattle.java_model.specs.Grammar.YieldUnit.{yield_type_decl}

pub reads_both : (ps qs : List Piece) (ts vs us : List Sign) → Reads ps ts vs → Reads qs vs us → Reads (ps ++ qs) ts us
reads_both [] qs ts vs us h g = subst (λ xs. Reads qs xs us) (sym h) g
reads_both (token s ∷ ps) qs ts vs us h g = (h.0, h.1, reads_both ps qs h.0 vs us h.2 g)
reads_both (hole k ∷ ps) qs ts vs us h g = (h.0, h.1, reads_both ps qs (after_body h.0 zero) vs us h.2 g)

-- in continuation style, so that the tokens between are a variable
pub reads_split : {C : Type 0} (ps qs : List Piece) (ts us : List Sign) → Reads (ps ++ qs) ts us
    → ((vs : List Sign) → Reads ps ts vs → Reads qs vs us → C) → C
reads_split [] qs ts us h k = k ts refl h
reads_split (token s ∷ ps) qs ts us h k = reads_split ps qs h.0 us h.2 (λ vs g r. k vs (h.0, h.1, g) r)
reads_split (hole n ∷ ps) qs ts us h k = reads_split ps qs (after_body h.0 zero) us h.2 (λ vs g r. k vs (h.0, h.1, g) r)

pub reads_signs : (xs us : List Sign) → Reads (map token xs) (xs ++ us) us
reads_signs [] us = refl
reads_signs (x ∷ xs) us = (xs ++ us, refl, reads_signs xs us)

tail_of : {x y : Sign} {xs ys : List Sign} → (x ∷ xs) ≡ (y ∷ ys) → xs ≡ ys
tail_of e = cc

-- the same pieces leave the same tokens
pub reads_once : (ps : List Piece) (ts us vs : List Sign) → Reads ps ts us → Reads ps ts vs → us ≡ vs
reads_once [] ts us vs h g = sym h ∙ g
reads_once (token s ∷ ps) ts us vs h g =
    reads_once ps g.0 us vs (subst (λ xs. Reads ps xs us) (tail_of (sym h.1 ∙ g.1)) h.2) g.2
reads_once (hole k ∷ ps) ts us vs h g =
    reads_once ps (after_body g.0 zero) us vs (subst (λ xs. Reads ps (after_body xs zero) us) (tail_of (sym h.1 ∙ g.1)) h.2) g.2

pub spells_split : {C : Type 0} (ps qs : List Piece) (s t : Stage) → Spells (ps ++ qs) s t
    → ((m : Stage) → Spells ps s m → Spells qs m t → C) → C
spells_split [] qs s t h k = k s (spells_nothing s) h
spells_split (token x ∷ ps) qs s t (spells_token _ _ tokens _ _ e g) k =
    spells_split ps qs _ t g (λ m h r. k m (spells_token x ps tokens s m e h) r)
spells_split (hole n ∷ ps) qs s t (spells_type _ _ d types _ l _ e shape g rest) k =
    spells_split ps qs l t rest (λ m h r. k m (spells_type n ps d types s l m e shape g h) r)

-- a token stands at the head of the tokens
pub spells_token_of : {C : Type 0} (x : Sign) (ps : List Piece) (s t : Stage) → Spells (token x ∷ ps) s t
    → ((tokens : List Sign) → s.tokens ≡ x ∷ tokens → Spells ps (stage s.number s.types tokens) t → C) → C
spells_token_of x ps s t (spells_token _ _ tokens _ _ e g) k = k tokens e g

-- a type stands in a hole
pub spells_type_of : {C : Type 0} (h : Hole) (ps : List Piece) (s t : Stage) → Spells (hole h ∷ ps) s t
    → ((d : TypeDecl) (types : List TypeDecl) (m : Stage) → s.types ≡ d ∷ types → IsTypeDecl h d
    → Spells (yield_type_decl s.number h d) (stage (suc s.number) types s.tokens) m → Spells ps m t → C) → C
spells_type_of h ps s t (spells_type _ _ d types _ m _ e shape g rest) k = k d types m e shape g rest

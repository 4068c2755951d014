-- Types and their members: their readers give what stands in the tokens.
use Rattle.std.proofs.Common.{◌≡◌, ℕ, Bool, true, false, ◌&&◌, ◌||◌, cond, List, [], ◌∷◌, ◌++◌, Option, Some, None, IfSome, refl, sym, ap, ◌∙◌, subst}
use Rattle.java_tree.specs.declared.mark.Mark.{Mark}
use Rattle.java_tree.specs.declared.mark.Mark.TheVariants as marks
use Rattle.java_tree.specs.declared.names.Ident.{Ident}
use Rattle.java_tree.specs.declared.names.Modifier.{Modifier}
use Rattle.java_tree.specs.declared.unit.TypeDecl.{TypeDecl}
use Rattle.java_tree.specs.declared.unit.TypeHead.{TypeHead}
use Rattle.java_tree.specs.declared.unit.TypeHead.TheVariants as heads
use Rattle.java_tree.specs.declared.unit.TypePlace.{TypePlace}
use Rattle.java_tree.specs.declared.unit.TypePlace.TheVariants as places
use Rattle.java_model.specs.Grammar.Signs.{Sign, mark, left_brace, this, super, word, literal, stray}
use Rattle.java_model.specs.Grammar.Pieces.{Piece, token, hole, Hole, the, yield_name, yield_type}
use Rattle.java_model.specs.Grammar.Forms.{IsNonEmpty}
use Rattle.java_model.specs.Grammar.Expressions.{IsType}
use Rattle.java_model.specs.Grammar.Units.{IsClassHead, IsInterfaceHead, IsHead, Stage, stage, Spells, spells_nothing}
use Rattle.java_model.specs.Grammar.YieldUnit.{yield_modifiers, yield_clause, yield_superclass, yield_head}
use Rattle.java_unit_reading.specs.Reading.Steps.{State, Parser, and_then, sees, sees_brace, tail, introduced}
use Rattle.java_unit_reading.specs.Reading.Words.{name, clause, modifiers, skip_modifiers}
use Rattle.java_unit_reading.specs.Reading.Members.{class_head, interface_head, named_head, head, begins_type, begins_initializer}
use Rattle.java_tree.specs.declared.names.Modifier.TheVariants as modifier_words
use Rattle.java_tree.specs.declared.names.Primitive.{Primitive}
use Rattle.java_tree.specs.declared.names.Primitive.TheVariants as primitives
use Rattle.java_tree.specs.declared.names.TypeUse.{TypeUse}
use Rattle.java_tree.specs.declared.unit.ClassHead.{ClassHead}
use Rattle.java_tree.specs.declared.unit.InterfaceHead.{InterfaceHead}
use Rattle.java_model.specs.Grammar.Signs.{primitive_mark, modifier_mark}
use Rattle.java_model.proofs.Grammar.Reads.{spells_split, spells_token_of, spells_type_of}
use Rattle.java_expr_reading.specs.Shapes.{same_mark}
use Rattle.java_unit_reading.specs.Reading.Words.{modifier_at}
use Rattle.java_unit_reading.proofs.Sounding.{sees_is}
use Rattle.java_unit_reading.proofs.Completing.{Gives, gives, Complete, at_end, headed, sees_same, sees_next, expect_gives, word_gives, part_gives, last_gives, spells_right}
use Rattle.java_unit_reading.proofs.WordLaws.{NoModifier, NotDotted, EndsClause, name_gives, clause_gives, modifiers_gives, option_gives}
use Rattle.java_unit_reading.proofs.Lookahead.{skips_modifiers, type_headed}
use Rattle.java_unit_reading.proofs.MemberLaws.Sound.{nowhere}

-- `{` comes next
abbrev pub BraceNext : List Sign → Type 0
BraceNext ts = sees_brace ts ≡ true

brace_is : (ts : List Sign) → BraceNext ts → (b : ℕ) × (ts ≡ left_brace b ∷ tail ts)
brace_is [] h = absurd cc
brace_is (left_brace b ∷ ts) h = (b, refl)
brace_is (mark m ∷ ts) h = absurd cc
brace_is (this s ∷ ts) h = absurd cc
brace_is (super s ∷ ts) h = absurd cc
brace_is (word i ∷ ts) h = absurd cc
brace_is (literal l ∷ ts) h = absurd cc
brace_is (stray ∷ ts) h = absurd cc

brace_ends_clause : (m : Mark) (ts : List Sign) → BraceNext ts → EndsClause m ts
unfolding sees
brace_ends_clause m ts h = let b = brace_is ts h in subst (EndsClause m) (sym b.1) (refl, (refl, refl))

brace_ends_name : (ts : List Sign) → BraceNext ts → (sees marks.Extends ts ≡ false) × NotDotted ts
unfolding sees
brace_ends_name ts h = let b = brace_is ts h in subst (λ us. (sees marks.Extends us ≡ false) × NotDotted us) (sym b.1) (refl, refl)

-- ---- heads

superclass_gives : (o : Option (List Ident)) → IfSome o IsNonEmpty
    → Complete (introduced marks.Extends name) (yield_superclass o) o (λ ts. (sees marks.Extends ts ≡ false) × NotDotted ts)
superclass_gives None h total s from to at g follow = option_gives (λ n a. yield_name n) IsNonEmpty (λ a. Unit {0}) marks.Extends name NotDotted (λ n a k i. name_gives n k) None nowhere h tt total s from to at g follow
superclass_gives (Some n) h total s from to at g follow = option_gives (λ n a. yield_name n) IsNonEmpty (λ a. Unit {0}) marks.Extends name NotDotted (λ n a k i. name_gives n k) (Some n) nowhere h tt total s from to at g follow

behind_superclass : (ns : List (List Ident)) (p q : Stage) → Spells (yield_clause marks.Implements ns) p q
    → BraceNext q.tokens → (sees marks.Extends p.tokens ≡ false) × NotDotted p.tokens
unfolding sees same_mark
behind_superclass [] p q (spells_nothing _) h = brace_ends_name p.tokens h
behind_superclass (n ∷ ns) p q g h = headed (λ ts. (sees marks.Extends ts ≡ false) × NotDotted ts) (mark marks.Implements) _ p q (λ ts. (refl, refl)) g

class_head_gives : (c : ClassHead) → IsClassHead c
    → Complete (class_head c.modifiers) (the marks.Class ∷ token (word c.name) ∷ (yield_superclass c.extends ++ yield_clause marks.Implements c.implements)) (heads.Class c) BraceNext
unfolding class_head
class_head_gives c h total s from to at g follow =
    expect_gives marks.Class _ _ at g (λ t1 m1 at1 r1. word_gives c.name _ _ at1 r1 (λ t2 m2 at2 r2.
    part_gives (introduced marks.Extends name) (yield_superclass c.extends) _ (λ ts. (sees marks.Extends ts ≡ false) × NotDotted ts) _ (superclass_gives c.extends h.0) at2 r2 (λ m l. behind_superclass c.implements m to l follow) (λ t3 m3 at3 r3.
    last_gives (clause marks.Implements) (yield_clause marks.Implements c.implements) (EndsClause marks.Implements) _ (clause_gives marks.Implements c.implements h.1) at3 r3 (brace_ends_clause marks.Implements to.tokens follow) (λ t4 at4. gives t4 at4))))

interface_head_gives : (i : InterfaceHead) → IsInterfaceHead i
    → Complete (interface_head i.modifiers) (the marks.Interface ∷ token (word i.name) ∷ yield_clause marks.Extends i.extends) (heads.Interface i) BraceNext
unfolding interface_head
interface_head_gives i h total s from to at g follow =
    expect_gives marks.Interface _ _ at g (λ t1 m1 at1 r1. word_gives i.name _ _ at1 r1 (λ t2 m2 at2 r2.
    last_gives (clause marks.Extends) (yield_clause marks.Extends i.extends) (EndsClause marks.Extends) _ (clause_gives marks.Extends i.extends h) at2 r2 (brace_ends_clause marks.Extends to.tokens follow) (λ t4 at4. gives t4 at4)))

no_class_at : (ts : List Sign) → sees marks.Class (mark marks.Interface ∷ ts) ≡ false
unfolding sees same_mark
no_class_at ts = refl

class_at : (c : ClassHead) (f : List Modifier → Parser TypeHead) → IsClassHead c
    → ((s : State) → sees marks.Class s.tokens ≡ true → f c.modifiers s ≡ class_head c.modifiers s)
    → Complete (λ s. and_then (modifiers s) f) (yield_head (heads.Class c)) (heads.Class c) BraceNext
class_at c f h same total s from to at g follow =
    part_gives modifiers (yield_modifiers c.modifiers) _ NoModifier f (modifiers_gives c.modifiers) at g (λ m l. headed NoModifier (mark marks.Class) _ m to (λ ts. refl) l) (λ t1 m1 at1 r1.
    subst (λ o. Gives total (heads.Class c) to o) (sym (same t1 (sees_next marks.Class _ at1 r1))) (class_head_gives c h total t1 m1 to at1 r1 follow))

interface_at : (i : InterfaceHead) (f : List Modifier → Parser TypeHead) → IsInterfaceHead i
    → ((s : State) → sees marks.Class s.tokens ≡ false → f i.modifiers s ≡ interface_head i.modifiers s)
    → Complete (λ s. and_then (modifiers s) f) (yield_head (heads.Interface i)) (heads.Interface i) BraceNext
interface_at i f h same total s from to at g follow =
    part_gives modifiers (yield_modifiers i.modifiers) _ NoModifier f (modifiers_gives i.modifiers) at g (λ m l. headed NoModifier (mark marks.Interface) _ m to (λ ts. refl) l) (λ t1 m1 at1 r1.
    subst (λ o. Gives total (heads.Interface i) to o) (sym (same t1 (ap (sees marks.Class) at1.tokens ∙ headed (λ ts. sees marks.Class ts ≡ false) (mark marks.Interface) _ m1 to no_class_at r1)))
    (interface_head_gives i h total t1 m1 to at1 r1 follow))

pub cond_true : {A : Type 0} (b : Bool) (x y : A) → b ≡ true → cond b x y ≡ x
cond_true true x y h = refl
cond_true false x y h = absurd cc

pub cond_false : {A : Type 0} (b : Bool) (x y : A) → b ≡ false → cond b x y ≡ y
cond_false false x y h = refl
cond_false true x y h = absurd cc

pub head_gives : (place : TypePlace) (h : TypeHead) → IsHead place h → Complete (head place) (yield_head h) h BraceNext
unfolding head
head_gives places.Anonymous (heads.Class c) h total s from to at g follow = absurd h
head_gives places.Anonymous (heads.Interface i) h total s from to at g follow = absurd h
head_gives places.Anonymous heads.Anonymous h total s from to at g follow = gives s (at_end at g)
head_gives places.TopLevel heads.Anonymous h total s from to at g follow = absurd h
head_gives places.TopLevel (heads.Class c) h total s from to at g follow = class_at c (named_head places.TopLevel) h (λ t e. cond_true (sees marks.Class t.tokens) _ _ e) total s from to at g follow
head_gives places.TopLevel (heads.Interface i) h total s from to at g follow = interface_at i (named_head places.TopLevel) h (λ t e. cond_false (sees marks.Class t.tokens) _ _ e) total s from to at g follow
head_gives places.Member heads.Anonymous h total s from to at g follow = absurd h
head_gives places.Member (heads.Class c) h total s from to at g follow = class_at c (named_head places.Member) h (λ t e. cond_true (sees marks.Class t.tokens) _ _ e) total s from to at g follow
head_gives places.Member (heads.Interface i) h total s from to at g follow = interface_at i (named_head places.Member) h (λ t e. cond_false (sees marks.Class t.tokens) _ _ e) total s from to at g follow
head_gives places.Local heads.Anonymous h total s from to at g follow = absurd h
head_gives places.Local (heads.Interface i) h total s from to at g follow = absurd h
head_gives places.Local (heads.Class c) h total s from to at g follow = class_at c (named_head places.Local) h (λ t e. refl) total s from to at g follow

-- ---- how members begin

-- what may stand behind modifiers
pub record BehindModifiers (ts : List Sign) : Type 0 where
  pub none : modifier_at ts ≡ None
  pub no_semicolon : sees marks.Semicolon ts ≡ false
  pub no_end : sees marks.RightBrace ts ≡ false
  pub no_brace : sees_brace ts ≡ false

-- what a member with modifiers begins with
pub record OpensMember (ts : List Sign) : Type 0 where
  pub no_semicolon : sees marks.Semicolon ts ≡ false
  pub no_end : sees marks.RightBrace ts ≡ false
  pub no_initializer : begins_initializer ts ≡ false

modifier_marks : (m : Modifier) (ts : List Sign)
    → (sees marks.Semicolon (mark (modifier_mark m) ∷ ts) ≡ false) × (sees marks.RightBrace (mark (modifier_mark m) ∷ ts) ≡ false)
unfolding sees same_mark
modifier_marks modifier_words.Abstract ts = (refl, refl)
modifier_marks modifier_words.Final ts = (refl, refl)
modifier_marks modifier_words.Native ts = (refl, refl)
modifier_marks modifier_words.Private ts = (refl, refl)
modifier_marks modifier_words.Protected ts = (refl, refl)
modifier_marks modifier_words.Public ts = (refl, refl)
modifier_marks modifier_words.Static ts = (refl, refl)
modifier_marks modifier_words.StrictFp ts = (refl, refl)
modifier_marks modifier_words.Synchronized ts = (refl, refl)
modifier_marks modifier_words.Transient ts = (refl, refl)
modifier_marks modifier_words.Volatile ts = (refl, refl)

pub and_false_right : (a b : Bool) → b ≡ false → (a && b) ≡ false
and_false_right true b h = h
and_false_right false b h = refl

pub and_false_left : (a b : Bool) → a ≡ false → (a && b) ≡ false
and_false_left true b h = absurd cc
and_false_left false b h = refl

pub or_both : (a b : Bool) → a ≡ false → b ≡ false → (a || b) ≡ false
or_both true b h g = h
or_both false b h g = g

pub no_static : (ts : List Sign) → modifier_at ts ≡ None → sees marks.Static ts ≡ false
no_static ts h = by_test (sees marks.Static ts) refl
  where
    by_test : (b : Bool) → sees marks.Static ts ≡ b → sees marks.Static ts ≡ false
    by_test false k = k
    by_test true k = let f = sym (ap modifier_at (sees_is marks.Static ts k)) ∙ h in absurd cc

modifiers_no_brace : (ms : List Modifier) (qs : List Piece) (p q : Stage)
    → ((m : Stage) → Spells qs m q → BehindModifiers m.tokens) → Spells (yield_modifiers ms ++ qs) p q
    → sees_brace p.tokens ≡ false
modifiers_no_brace [] qs p q f g = (f p g).no_brace
modifiers_no_brace (m ∷ ms) qs p q f g = headed (λ ts. sees_brace ts ≡ false) (mark (modifier_mark m)) _ p q (λ ts. refl) g

pub modifiers_open : (ms : List Modifier) (qs : List Piece) (p q : Stage)
    → ((m : Stage) → Spells qs m q → BehindModifiers m.tokens) → Spells (yield_modifiers ms ++ qs) p q
    → OpensMember p.tokens
modifiers_open [] qs p q f g =
    let k = f p g in
    record { no_semicolon = k.no_semicolon; no_end = k.no_end; no_initializer = or_both (sees_brace p.tokens) _ k.no_brace (and_false_left (sees marks.Static p.tokens) _ (no_static p.tokens k.none)) }
modifiers_open (m ∷ ms) qs p q f g =
    spells_token_of (mark (modifier_mark m)) _ p q g (λ ts e r.
    let marks_of = modifier_marks m ts in
    let rest = modifiers_no_brace ms qs _ q f r in
    record {
      no_semicolon = ap (sees marks.Semicolon) e ∙ marks_of.0;
      no_end = ap (sees marks.RightBrace) e ∙ marks_of.1;
      no_initializer = or_both (sees_brace p.tokens) _ (ap sees_brace e) (and_false_right (sees marks.Static p.tokens) _ (ap (λ us. sees_brace (tail us)) e ∙ rest));
    })

pub modifiers_skip : (ms : List Modifier) (qs : List Piece) (p q : Stage)
    → ((m : Stage) → Spells qs m q → BehindModifiers m.tokens) → (F : List Sign → Type 0)
    → ((m : Stage) → Spells qs m q → F m.tokens)
    → Spells (yield_modifiers ms ++ qs) p q → F (skip_modifiers p.tokens)
modifiers_skip ms qs p q f F k g = spells_split (yield_modifiers ms) qs p q g (λ m l r. subst F (sym (skips_modifiers ms p m l (f m r).none)) (k m r))

class_behind : (ts : List Sign) → BehindModifiers (mark marks.Class ∷ ts)
unfolding sees same_mark
class_behind ts = record { none = refl; no_semicolon = refl; no_end = refl; no_brace = refl }

interface_behind : (ts : List Sign) → BehindModifiers (mark marks.Interface ∷ ts)
unfolding sees same_mark
interface_behind ts = record { none = refl; no_semicolon = refl; no_end = refl; no_brace = refl }

pub void_behind : (ts : List Sign) → BehindModifiers (mark marks.Void ∷ ts)
unfolding sees same_mark
void_behind ts = record { none = refl; no_semicolon = refl; no_end = refl; no_brace = refl }

pub word_behind : (i : Ident) (ts : List Sign) → BehindModifiers (word i ∷ ts)
unfolding sees same_mark
word_behind i ts = record { none = refl; no_semicolon = refl; no_end = refl; no_brace = refl }

primitive_behind : (x : Primitive) (ts : List Sign) → BehindModifiers (mark (primitive_mark x) ∷ ts)
unfolding sees same_mark
primitive_behind primitives.Boolean ts = record { none = refl; no_semicolon = refl; no_end = refl; no_brace = refl }
primitive_behind primitives.Byte ts = record { none = refl; no_semicolon = refl; no_end = refl; no_brace = refl }
primitive_behind primitives.Short ts = record { none = refl; no_semicolon = refl; no_end = refl; no_brace = refl }
primitive_behind primitives.Char ts = record { none = refl; no_semicolon = refl; no_end = refl; no_brace = refl }
primitive_behind primitives.Int ts = record { none = refl; no_semicolon = refl; no_end = refl; no_brace = refl }
primitive_behind primitives.Long ts = record { none = refl; no_semicolon = refl; no_end = refl; no_brace = refl }
primitive_behind primitives.Float ts = record { none = refl; no_semicolon = refl; no_end = refl; no_brace = refl }
primitive_behind primitives.Double ts = record { none = refl; no_semicolon = refl; no_end = refl; no_brace = refl }

-- neither `class` nor `interface` nor `void` comes next
abbrev pub NoType : List Sign → Type 0
NoType ts = ((sees marks.Class ts || sees marks.Interface ts) ≡ false)

pub void_no_type : (ts : List Sign) → NoType (mark marks.Void ∷ ts)
unfolding sees same_mark
void_no_type ts = refl

pub word_no_type : (i : Ident) (ts : List Sign) → NoType (word i ∷ ts) × (sees marks.Void (word i ∷ ts) ≡ false)
unfolding sees same_mark
word_no_type i ts = (refl, refl)

primitive_no_type : (x : Primitive) (ts : List Sign)
    → NoType (mark (primitive_mark x) ∷ ts) × (sees marks.Void (mark (primitive_mark x) ∷ ts) ≡ false)
unfolding sees same_mark
primitive_no_type primitives.Boolean ts = (refl, refl)
primitive_no_type primitives.Byte ts = (refl, refl)
primitive_no_type primitives.Short ts = (refl, refl)
primitive_no_type primitives.Char ts = (refl, refl)
primitive_no_type primitives.Int ts = (refl, refl)
primitive_no_type primitives.Long ts = (refl, refl)
primitive_no_type primitives.Float ts = (refl, refl)
primitive_no_type primitives.Double ts = (refl, refl)

pub type_behind : (t : TypeUse) (qs : List Piece) (p q : Stage) → IsType t → Spells (yield_type t ++ qs) p q
    → BehindModifiers p.tokens × (NoType p.tokens × (sees marks.Void p.tokens ≡ false))
type_behind t qs p q h g = type_headed (λ ts. BehindModifiers ts × (NoType ts × (sees marks.Void ts ≡ false))) t qs p q h (λ x ts. (primitive_behind x ts, primitive_no_type x ts)) (λ i ts. (word_behind i ts, word_no_type i ts)) g

-- what stands in a hole of a body
pub type_begins : (h : Hole) (qs : List Piece) (p q : Stage) → (h.place ≡ places.Anonymous → ⊥)
    → Spells (hole h ∷ qs) p q → OpensMember p.tokens × (begins_type p.tokens ≡ true)
type_begins h qs p q n g =
    spells_type_of h qs p q g (λ c types m et shape inner rest. by_head c.head _ (named c.head shape.head) inner)
  where
    named : (x : TypeHead) → IsHead h.place x → x ≡ heads.Anonymous → ⊥
    named x k e = by_place h.place refl (subst (IsHead h.place) e k)
      where
        by_place : (v : TypePlace) → h.place ≡ v → IsHead v heads.Anonymous → ⊥
        by_place places.Anonymous f l = n f
        by_place places.TopLevel f l = l
        by_place places.Member f l = l
        by_place places.Local f l = l

    or_true : (a b : Bool) → a ≡ true → (a || b) ≡ true
    or_true true b k = refl
    or_true false b k = absurd cc

    or_last : (a b : Bool) → b ≡ true → (a || b) ≡ true
    or_last true b k = refl
    or_last false b k = k

    at_word : (ms : List Modifier) (m : Mark) (rs : List Piece) (a b : Stage)
        → ((ts : List Sign) → BehindModifiers (mark m ∷ ts))
        → ((ts : List Sign) → (sees marks.Class (mark m ∷ ts) || sees marks.Interface (mark m ∷ ts)) ≡ true)
        → Spells (yield_modifiers ms ++ the m ∷ rs) a b → OpensMember a.tokens × (begins_type a.tokens ≡ true)
    at_word ms m rs a b f k r = (
      modifiers_open ms _ a b (λ c l. headed BehindModifiers (mark m) rs c b f l) r,
      modifiers_skip ms _ a b (λ c l. headed BehindModifiers (mark m) rs c b f l) (λ ts. (sees marks.Class ts || sees marks.Interface ts) ≡ true) (λ c l. headed (λ ts. (sees marks.Class ts || sees marks.Interface ts) ≡ true) (mark m) rs c b k l) r,
    )

    by_head : (x : TypeHead) (ps : List Piece) {k : ℕ} {types : List TypeDecl} {m : Stage}
        → (x ≡ heads.Anonymous → ⊥) → Spells (yield_head x ++ ps) (stage k types p.tokens) m
        → OpensMember p.tokens × (begins_type p.tokens ≡ true)
    by_head (heads.Class c) ps {k = k} {types = types} {m = m} v r = at_word c.modifiers marks.Class _ (stage k types p.tokens) m class_behind (λ ts. or_true (sees marks.Class (mark marks.Class ∷ ts)) _ (sees_same marks.Class ts)) (spells_right (yield_modifiers c.modifiers) _ ps r)
    by_head (heads.Interface i) ps {k = k} {types = types} {m = m} v r = at_word i.modifiers marks.Interface _ (stage k types p.tokens) m interface_behind (λ ts. or_last (sees marks.Class (mark marks.Interface ∷ ts)) _ (sees_same marks.Interface ts)) (spells_right (yield_modifiers i.modifiers) _ ps r)
    by_head heads.Anonymous ps v r = absurd (v refl)

use Rattle.std.proofs.Common.{◌≡◌, ℕ, List, Bool, nat_eq}
use Rattle.std.specs.Bool.{Decides}
use Rattle.std.specs.List.{Contains, IsAnyAnswer}
use Rattle.std.proofs.lemmas.Bool.Decides.{Decides-eqb}
use Rattle.std.proofs.lemmas.List.Elements.{contains_decides, Decides-contains}
use Rattle.jx_disk.proofs.memory.MemDisk.begin.Goals as goal

-- the answer of a look through the list says whether it has the number
finds_listed : (xs : List ℕ) (x : ℕ) (found : Bool) → IsAnyAnswer (λ y b. nat_eq y x ≡ b) xs found → Decides found (Contains xs x)
finds_listed xs x found answer = Decides-contains xs x found (contains_decides nat_eq Decides-eqb xs x found answer)

pub returns-clause-fails : goal.returns-clause-fails
returns-clause-fails c =
    let answer = rw (c.deref.ensures.value, c.saturating_add-self.ensures) at c.contains.ensures.cases in
    finds_listed _ _ _ answer

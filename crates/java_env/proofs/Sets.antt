-- Sets of numbers in order.
use Rattle.std.proofs.Common.{◌≡◌, ◌≤◌, ◌<◌, ℕ, suc, List, [], ◌∷◌, sym, arith}
use Rattle.std.specs.List.{AllByRecursion}
use Rattle.std.specs.List.Sorted.{IsStrictlySortedBy}
use Rattle.std.specs.declared.cmp.Ordering.TheVariants.{Less}
use Rattle.std.specs.Ordering.{nat_cmp}
use Rattle.std.proofs.lemmas.Cmp.{ranked}
use Rattle.java_env.proofs.Ordering.{Rises}

less : (x y : ℕ) → nat_cmp x y ≡ Less → x < y
less x y e = ranked x y Less (sym e)

later : (k : ℕ) (ks : List ℕ) → AllByRecursion (λ y. nat_cmp k y ≡ Less) ks → AllByRecursion (λ y. suc k ≤ y) ks
later k [] a = tt
later k (y ∷ ys) a = ((let l = less k y a.0 in omega (arith, l)), later k ys a.1)

rises-from : (from : ℕ) (ks : List ℕ) → AllByRecursion (λ y. from ≤ y) ks → IsStrictlySortedBy nat_cmp ks → Rises from ks
unfolding IsStrictlySortedBy
rises-from from [] a s = tt
rises-from from (k ∷ ks) a s = (a.0, rises-from (suc k) ks (later k ks s.0) s.1)

from-zero : (ks : List ℕ) → AllByRecursion (λ y. 0 ≤ y) ks
from-zero [] = tt
from-zero (k ∷ ks) = (omega arith, from-zero ks)

pub rises : (ks : List ℕ) → IsStrictlySortedBy nat_cmp ks → Rises 0 ks
rises ks s = rises-from 0 ks (from-zero ks) s

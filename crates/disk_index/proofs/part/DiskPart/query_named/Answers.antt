use Rattle.std.proofs.Common.{◌≡◌, ◌&&◌, List, ℕ, Bool, false, sym, ap, length, get_or, subst, arith}
use Rattle.std.specs.Prelude.{filter, IfOk}
use Rattle.disk_index.specs.Named.{has}
use Rattle.disk_index.specs.Part.{numbers_from}
use Rattle.disk_index.proofs.NamedRows.{Found, hits_below, named_answered}
use Rattle.disk_index.proofs.part.DiskPart.query_named.Goals as goal

pub live_hits-requires : goal.live_hits-requires
live_hits-requires g c =
    let found = subst (λ (file : List ℕ). Found (g.P.Admit.admitted c.args.pattern.now) file c.self.inside.words c.entries-range.result c.in-Ok.hits.items) c.as_slice.ensures.value c.in-Ok.ensures in
    record {
      small = omega (arith, ap length c.as_slice-in-Ok.ensures.value, c.self.invariant.long, c.self.invariant.small);
      inside = λ k h.
          let below = hits_below (g.P.Admit.admitted c.args.pattern.now) c.args.self.now c.self.inside.bytes.items c.self.inside.places.items c.self.inside.words c.self.inside.live.items c.entries-range.result c.in-Ok.hits.items k
          (sym c.self.view_is) c.self.invariant c.entries-range.ensures (omega arith) found h in
          omega (arith, below, ap length c.as_slice-in-Ok.ensures.value);
    }

pub returns-in-Ok : goal.returns-in-Ok
returns-in-Ok g c =
    let found = subst (λ (file : List ℕ). Found (g.P.Admit.admitted c.args.pattern.now) file c.self.inside.words c.entries-range.result c.in-Ok.hits.items) c.as_slice.ensures.value c.in-Ok.ensures in
    named_answered c.live_hits.result (g.P.Admit.admitted c.args.pattern.now) c.args.self.now c.self.inside.bytes.items c.self.inside.places.items c.self.inside.words c.self.inside.live.items c.entries-range.result c.in-Ok.hits.items
    (sym c.self.view_is) c.self.invariant c.entries-range.ensures (omega arith) found
    (subst (λ (l : List Bool). IfOk c.live_hits.result (λ v. v.items ≡ filter (λ n. get_or l n false && has c.in-Ok.hits.items n) (numbers_from 0 (length l)))) c.as_slice-in-Ok.ensures.value c.live_hits.ensures)

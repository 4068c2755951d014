use Rattle.std.proofs.Common.{rules, length, refl}
use Rattle.std.proofs.lemmas.Option.{slice_get_read}
use Rattle.java_types.specs.Tables.{Tests}
use Rattle.java_types.proofs.Seeking.{sought_none, sought_keyed, sought_less, sought_found, sought_next, sought_all}
use Rattle.java_types.proofs.lookup.first_with_key.Goals as goal

pub loop-next-init : goal.loop-next-init
loop-next-init g c = sought_none (Tests g.F.Fn c.args.fits) c.args.entries.now c.args.table.now c.args.key c.first-next.result c.requires.of_entries c.first-next.ensures

pub offset_bounds-entries-number : goal.offset_bounds-entries-number
offset_bounds-entries-number g c =
    let within = (sought_keyed (Tests g.F.Fn c.args.fits) c.args.entries.now c.args.table.now c.args.key c.in-Some.number c.loop-next.next c.loop-next.invariant c.in-Some.is).0 in search (rules, within)

pub bounds-entries-number : goal.bounds-entries-number
bounds-entries-number g c = (sought_keyed (Tests g.F.Fn c.args.fits) c.args.entries.now c.args.table.now c.args.key c.in-Some.number c.loop-next.next c.loop-next.invariant c.in-Some.is).0

pub returns-then-fits : goal.returns-then-fits
returns-then-fits g c =
    sought_found (Tests g.F.Fn c.args.fits) c.args.entries.now c.args.table.now c.args.key c.in-Some.number c.index-entries-number.result c.loop-next.next c.fits.result c.loop-next.invariant c.in-Some.is
    (slice_get_read c.args.entries.now (length c.args.entries.now) c.in-Some.number c.index-entries-number.result refl
    (sought_keyed (Tests g.F.Fn c.args.fits) c.args.entries.now c.args.table.now c.args.key c.in-Some.number c.loop-next.next c.loop-next.invariant c.in-Some.is).0 c.index-entries-number.is)
    c.if-fits.true (λ test gives. gives c.index-entries-number.result c.fits.result (record { shown = _; shows = refl; says = record { met = c.fits.ensures } }))

pub after-next-requires : goal.after-next-requires
after-next-requires g c = (sought_keyed (Tests g.F.Fn c.args.fits) c.args.entries.now c.args.table.now c.args.key c.in-Some.number c.loop-next.next c.loop-next.invariant c.in-Some.is).1

pub loop-next-smaller : goal.loop-next-smaller
loop-next-smaller g c =
    sought_less (Tests g.F.Fn c.args.fits) c.args.entries.now c.args.table.now c.args.key c.in-Some.number c.loop-next.next c.after-next.result c.loop-next.invariant c.in-Some.is c.after-next.ensures

pub loop-next-preserved : goal.loop-next-preserved
loop-next-preserved g c =
    sought_next (Tests g.F.Fn c.args.fits) c.args.entries.now c.args.table.now c.args.key c.in-Some.number c.index-entries-number.result c.loop-next.next c.after-next.result c.fits.result c.loop-next.invariant c.in-Some.is
    (slice_get_read c.args.entries.now (length c.args.entries.now) c.in-Some.number c.index-entries-number.result refl
    (sought_keyed (Tests g.F.Fn c.args.fits) c.args.entries.now c.args.table.now c.args.key c.in-Some.number c.loop-next.next c.loop-next.invariant c.in-Some.is).0 c.index-entries-number.is)
    c.if-fits.false (λ test gives. gives c.index-entries-number.result c.fits.result (record { shown = _; shows = refl; says = record { met = c.fits.ensures } })) c.after-next.ensures

pub returns : goal.returns
returns g c = sought_all (Tests g.F.Fn c.args.fits) c.args.entries.now c.args.table.now c.args.key c.loop-next.next c.loop-next.invariant c.in_default.is

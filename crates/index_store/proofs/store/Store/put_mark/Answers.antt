use Rattle.std.proofs.Common.{◌≡◌, ℕ, List, [], true, refl, sym, ap}
use Rattle.java_model.specs.StateFile.Cells.{Cell as Says}
use Rattle.index_states.specs.declared.cell.Cell.{Cell}
use Rattle.index_states.specs.Cells.{says_of}
use Rattle.index_store.proofs.TableLaws.{table_after}
use Rattle.index_store.proofs.store.Store.put_mark.Goals as goal

pub returns-in_err-save_mark-clause-any_moment : goal.returns-in_err-save_mark-clause-any_moment
returns-in_err-save_mark-clause-any_moment g c acks honest keeps sound target =
    c.save_mark.ensures.any_moment acks _ honest keeps.fits target (c.spell_cell-cell.ensures.counts sound) refl

pub returns-in_err-save_mark-clause-fits : goal.returns-in_err-save_mark-clause-fits
returns-in_err-save_mark-clause-fits g c acks honest keeps sound target =
    c.save_mark.ensures.fits acks _ honest keeps.fits target (c.spell_cell-cell.ensures.counts sound) refl

pub returns-clause-any_moment : goal.returns-clause-any_moment
returns-clause-any_moment g c acks honest keeps sound target =
    c.save_mark.ensures.any_moment acks _ honest keeps.fits target (c.spell_cell-cell.ensures.counts sound) refl

pub returns-clause-fits : goal.returns-clause-fits
returns-clause-fits g c acks honest keeps sound target =
    c.save_mark.ensures.fits acks _ honest keeps.fits target (c.spell_cell-cell.ensures.counts sound) refl

pub returns-clause-saved : goal.returns-clause-saved
returns-clause-saved g c acks honest keeps sound target =
    record {
      table =
          let says : Says = record { rebuild = true; generation = c.args.generation; size = 0; name = c.args.container.now } in
          let cell : Cell = record { pair = c.args.pair; side = c.args.side; rebuild = true; generation = c.args.generation; length = 0; name = c.in_ok-name.name } in
          let told : says ≡ says_of cell = ap (λ (name : List ℕ). record { rebuild = true; generation = c.args.generation; size = 0; name = name }) (sym c.in_ok-name.ensures) in
          table_after acks c.args.self.now.table.entries.items c.args.pair c.args.side says [] cell keeps.table c.requires.pair refl c.requires.side told;
      fits = (c.in_ok-save_mark.ensures.saved acks _ honest keeps.fits target (c.spell_cell-cell.ensures.counts sound) refl).0;
    }

pub returns-clause-there : goal.returns-clause-there
returns-clause-there g c acks honest keeps sound target =
    (c.in_ok-save_mark.ensures.saved acks _ honest keeps.fits target (c.spell_cell-cell.ensures.counts sound) refl).1

-- What a cell of a pair says.
use Rattle.java_model.specs.StateFile.Cells.{Cell as Says}
use Rattle.index_states.specs.declared.cell.Cell.{Cell}

abbrev pub says_of : Cell → Says
says_of cell = record { rebuild = cell.rebuild; generation = cell.generation; size = cell.length; name = cell.name }

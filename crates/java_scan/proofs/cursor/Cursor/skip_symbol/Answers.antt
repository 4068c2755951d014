use Rattle.std.proofs.Common.{sym, ap, ◌∙◌, subst}
use Rattle.java_scan.specs.declared.symbols.SymbolStart.{SymbolStart}
use Rattle.java_scan.specs.Steps.{symbol_end}
use Rattle.java_scan.proofs.SymbolSteps.{SymbolIs, symbol_is, some_is}
use Rattle.java_scan.proofs.cursor.Cursor.skip_symbol.Goals as goal

pub returns-in-Nothing-clause-value : goal.returns-in-Nothing-clause-value
returns-in-Nothing-clause-value c =
    let is = subst (λ (s : SymbolStart). SymbolIs s c.args.self.now c.args.c) (sym c.symbol_start-start.ensures ∙ c.in-Nothing.is) (symbol_is c.args.self.now c.args.c c.requires) in
    sym is.0

pub returns-in-Nothing-clause-after : goal.returns-in-Nothing-clause-after
returns-in-Nothing-clause-after c =
    let is = subst (λ (s : SymbolStart). SymbolIs s c.args.self.now c.args.c) (sym c.symbol_start-start.ensures ∙ c.in-Nothing.is) (symbol_is c.args.self.now c.args.c c.requires) in
    sym is.1

pub returns : goal.returns
returns c =
    let is = subst (λ (s : SymbolStart). SymbolIs s c.args.self.now c.args.c) (sym c.symbol_start-start.ensures) (symbol_is c.args.self.now c.args.c c.requires) in
    let some = some_is c.symbol_start-start.result c.args.self.now c.args.c c.in_default.not-Nothing is in
    record {
      value = sym some.0;
      after = c.symbol_end.ensures ∙ (ap (symbol_end c.symbol_start-start.result c.args.c) c.skip.ensures ∙ some.1);
    }

use Rattle.std.proofs.Common.{ap, ℕ}
use Rattle.std.specs.Prelude.{Some, None, Option}
use Rattle.tb_tree.specs.Longest.{Never}
use Rattle.tb_tree.specs.declared.exprs.Var.{Var}
use Rattle.tb_tree.specs.declared.exprs.Function.{Function}
use Rattle.tb_tree.specs.declared.exprs.Stmt.{Stmt}
use Rattle.tb_tree.specs.declared.exprs.BlockItem.TheVariants as block_item
use Rattle.tb_tree.specs.declared.exprs.BlockItem.{BlockItem}
use Rattle.tb_tree.proofs.Ends.{found_as}
use Rattle.tb_parse_body.specs.Rules.{around_of, Deep, VarUpto, FunctionUpto, InBody}
use Rattle.tb_parse_body.proofs.FirstSymbols.{lacking, reading, lacking_stmt, reading_stmt}
use Rattle.tb_parse_body.proofs.BlockItems.{item_var, item_function, item_stmt, item_lacks}
use Rattle.tb_parse_body.proofs.nests.Grammar.block_item_at.Goals as goal

pub returns-in-Some : goal.returns-in-Some
returns-in-Some g c =
    let x = c.in-Some.var in
    let f = reading (VarUpto c.args.limit) Never c.args.self.now.reader c.args.at _ x c.in-Some.is c.in_ok-var.ensures in
    let p = item_var (around_of c.args.around) c.args.limit f.1 in
    ((f.0, found_as (ap (λ (v : Var). let y : Deep BlockItem = (block_item.Var v, x.depth) in y) c.in_ok-new.ensures) p.0), p.1)

pub returns-in-Some-2 : goal.returns-in-Some-2
returns-in-Some-2 g c =
    let x = c.in-Some-2.function in
    let f = reading (FunctionUpto c.args.limit) InBody c.args.self.now.reader c.args.at _ x c.in-Some-2.is c.in_ok-function.ensures in
    let p = item_function (around_of c.args.around) c.args.limit f.1 in
    ((f.0, found_as (ap (λ (v : Function). let y : Deep BlockItem = (block_item.Function v, x.depth) in y) c.in_ok-new-2.ensures) p.0), p.1)

pub returns-in_default-3 : goal.returns-in_default-3
returns-in_default-3 g c =
    let r = c.args.self.now.reader in
    item_lacks (around_of c.args.around) c.args.limit (lacking (VarUpto c.args.limit) Never r c.args.at _ c.in_default.is c.in_ok-var.ensures)
    (lacking (FunctionUpto c.args.limit) InBody r c.args.at _ c.in_default-2.is c.in_ok-function.ensures)
    (lacking_stmt (around_of c.args.around) c.args.limit r c.args.at _ c.in_default-3.is c.in_ok-stmt.ensures)

pub returns : goal.returns
returns g c =
    let x = c.in-Some-3.stmt in
    let f = (reading_stmt (around_of c.args.around) c.args.limit c.args.self.now.reader c.args.at _ x c.in-Some-3.is c.in_ok-stmt.ensures).0 in
    let p = item_stmt (around_of c.args.around) c.args.limit f.1 in
    ((f.0, found_as (ap (λ (v : Stmt). let y : Deep BlockItem = (block_item.Stmt v, x.depth) in y) c.in_ok-new-3.ensures) p.0), p.1)

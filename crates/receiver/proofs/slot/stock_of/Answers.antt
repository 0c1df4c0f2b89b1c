use Rattle.std.proofs.Common.{length, arith}
use Rattle.receiver.proofs.Stores.{stock_is, stock_le}
use Rattle.receiver.proofs.slot.stock_of.Goals as goal

-- what is held and what is fresh is the stock, which the film bounds
pub overflow_add-result : goal.overflow_add-result
overflow_add-result c =
    let e = stock_is (length c.args.film.now) c.args.film.now c.args.pages.now (omega arith) in
    let few = stock_le (length c.args.film.now) c.args.film.now c.args.pages.now in
    omega arith

pub overflow_cast-result : goal.overflow_cast-result
overflow_cast-result c =
    let e = stock_is (length c.args.film.now) c.args.film.now c.args.pages.now (omega arith) in
    let few = stock_le (length c.args.film.now) c.args.film.now c.args.pages.now in
    omega arith

pub returns : goal.returns
returns c =
    let e = stock_is (length c.args.film.now) c.args.film.now c.args.pages.now (omega arith) in
    record { held_and_fresh = omega arith }

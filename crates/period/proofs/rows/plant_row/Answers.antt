-- `period::rows::plant_row` meets its contract: its columns are those of the definition. Assumes nothing.
use Rattle.std.proofs.Common.{◌-◌, ◌≤◌, ◌^◌, arith}
use Rattle.std.proofs.Math.Nat.{mul-le-mul}
use Rattle.period.proofs.rows.plant_row.Goals as goal

-- two numbers of 32 bits make a product of 64
pub overflow_mul-gross : goal.overflow_mul-gross
overflow_mul-gross c =
    let stored : c.args.account.stored ≤ 2 ^ 32 - 1 = omega arith in
    let fraction : c.args.account.fraction ≤ 2 ^ 32 - 1 = omega arith in
    omega (arith, mul-le-mul stored fraction)

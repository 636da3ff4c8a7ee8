-- The entry point of the bill: numbers in place of a tariff and of an answer.
use Rattle.std.specs.Prelude.{ℕ, List, [], ◌∷◌}
use Rattle.bill.specs.Answers.{Billed, group, net_told, tax_told, total_told}
use Rattle.bill.specs.declared.tariff.Tariff.{Tariff}

-- gz_bill is given block price, slot price and tax rate
abbrev pub tariff_of : ℕ → ℕ → ℕ → Tariff
tariff_of block slot rate = record { block_price = block; slot_price = slot; tax_rate = rate }

-- gz_bill writes group, net, tax and total
abbrev pub bill_answer : Billed → List ℕ
bill_answer a = group a ∷ net_told a ∷ tax_told a ∷ total_told a ∷ []

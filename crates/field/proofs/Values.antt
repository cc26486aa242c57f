-- A field passed the test, and products, squares and powers of its values have at most as many bits as its width.
use Rattle.std.proofs.Common.{◌≡◌, ℕ, ◌+◌, ◌^◌, ◌<◌}
use Rattle.field.specs.declared.field.Field.{Field}
use Rattle.field.specs.Polynomials.{product}
use Rattle.field.proofs.Remainders.{product_below}
use Rattle.field.specs.Fields.{mul, square, squared, ones}
use Rattle.field.proofs.Inverses.{Tested}
use Rattle.field.proofs.Tested.{field_good}
use Rattle.field.proofs.Products.{mul_by_lt}
use Rattle.field.proofs.Powers.{squared_lt, ones_lt}
use Rattle.std.proofs.Math.Nat.{le_of_lt}

pub tested : (f : Field) → Tested f.width f.low
tested f = field_good f.width f.low f.known f.some

pub mul_small : (f : Field) (a b r : ℕ) → a < 2 ^ f.width → r ≡ mul f.width f.low a b → r < 2 ^ f.width
mul_small f a b r h e = rw e (mul_by_lt f.width f.low (tested f).small f.width a b h)

pub square_small : (f : Field) (a r : ℕ) → a < 2 ^ f.width → r ≡ square f.width f.low a → r < 2 ^ f.width
square_small f a r h e = mul_small f a a r h e

pub squared_small : (f : Field) (k a r : ℕ) → a < 2 ^ f.width → r ≡ squared f.width f.low k a → r < 2 ^ f.width
squared_small f k a r h e = rw e (squared_lt f.width f.low (tested f).small (le_of_lt (tested f).wide) k a h)

pub ones_small : (f : Field) (k a r : ℕ) → r ≡ ones f.width f.low k a → r < 2 ^ f.width
ones_small f k a r e = rw e (ones_lt f.width f.low (tested f).small (le_of_lt (tested f).wide) k a)

pub times_small : (f : Field) (a b r : ℕ) → a < 2 ^ f.width → r ≡ product f.width a b → r < 2 ^ (f.width + f.width)
times_small f a b r h e = rw e (product_below f.width f.width a b h)

pub ruleset smalls = (times_small, mul_small, square_small, squared_small, ones_small)

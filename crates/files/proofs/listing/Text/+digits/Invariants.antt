-- The measure is the number.
use Rattle.files.proofs.listing.Text.+digits.Given as goal

abbrev pub decreases-digits : goal.decreases-digits
decreases-digits l = l.n

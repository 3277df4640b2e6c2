-- Where the bits of a record are.
use Rattle.std.specs.Prelude.{ℕ, ◌+◌, List}
use Rattle.bits.specs.declared.Order.TheVariants.{Big}
use Rattle.bits.specs.Field.{join, field}
use Rattle.bits.specs.Signed.{signed, pattern}
use Rattle.record.specs.declared.Record.{Record}

-- the 89 bits of a record as one number: star 20, date 38, limit 1, magnitude 16, error 10, filter 4, the first most significant
unfoldable pub bits_of : Record → ℕ
bits_of r =
    join Big 85 4
    (join Big 75 10
    (join Big 59 16
    (join Big 58 1
    (join Big 20 38 r.star r.date)
    r.limit)
    (pattern 16 r.magnitude))
    r.error)
    r.filter

-- the record at place p of a strip: its six fields, one behind the other
unfoldable pub record_at : List ℕ → ℕ → Record
record_at s p =
    record {
      star = field Big s p 20;
      date = field Big s (p + 20) 38;
      limit = field Big s (p + 58) 1;
      magnitude = signed 16 (field Big s (p + 59) 16);
      error = field Big s (p + 75) 10;
      filter = field Big s (p + 85) 4;
    }

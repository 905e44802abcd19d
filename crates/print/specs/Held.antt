-- What a bitmap that passed the guard holds.
use Rattle.storage.specs.Stores.{Bits, held}
use Rattle.print.specs.declared.Held.{Held}

-- its bits
abbrev pub bits_of : Held → Bits
bits_of h = held h.words.now h.bitmap

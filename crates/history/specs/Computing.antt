-- A name under which a computed fact unfolds the receiver.
use Rattle.words.specs.Words.{ℕ}
use Rattle.tinymt.specs.Computing as generator
use Rattle.field.specs.Gf256.{product}
use Rattle.field.specs.Powers.{inverse, inverse_below}
use Rattle.memory.specs.Part.{part}
use Rattle.wire.specs.Packets.{symbol_count, adui, source_symbols, source_form, source_adu, source_esi, repair_count, repair_form, repair_key, density_threshold}
use Rattle.wire.specs.Packets.{protected_count, first_esi, repair_symbols}
use Rattle.wire.specs.Flows.{announced}
use Rattle.coefficients.specs.Coefficients.{nonzero_from, bit_of, byte_of, extend, coefficients_of}
use Rattle.starts.specs.Adu.{joint, need, handing}
use Rattle.starts.specs.Starts.{pass}
use Rattle.history.specs.History.{side_of, check, from_side, read_source, read_repair, reading, halfway, farthest}
use Rattle.history.specs.Model.{answering, finding, starts_after, adu_at}
use Rattle.decoder.specs.Model as model
use Rattle.decoder.specs.Receiver as decoder
use Rattle.decoder.specs.Packets as packets

-- A name for the `unfolding` line of a computed fact: to unfold it is to unfold all that the calls of a receiver compute with.
unfoldable pub computing : ℕ
unfolding
    generator.computing product inverse inverse_below nonzero_from bit_of byte_of extend coefficients_of part
    symbol_count adui source_symbols source_form source_adu source_esi repair_count repair_form repair_key density_threshold protected_count first_esi repair_symbols
    halfway side_of check farthest from_side announced read_source read_repair reading answering finding
    packets.source packets.source_rows packets.row packets.only packets.repair
    decoder.empty decoder.receive decoder.rise decoder.newly decoder.count_new decoder.is_new
    decoder.embed decoder.advance_by decoder.insert_all
    model.insert model.known model.settle model.settle_by model.reduce model.place model.place_free model.lead model.at
    model.axpy model.scale model.symbol model.push model.extend model.advance
    joint need handing pass starts_after adu_at
computing = 0

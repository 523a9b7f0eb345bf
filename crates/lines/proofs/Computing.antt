-- One name for all definitions of this crate: where it unfolds, they all compute. For examples that
-- are proved by computing.
use Rattle.lines.specs.Number.{ascii, is_digit, is_decimal, digits_after, read_number, decimal_from, decimal}
use Rattle.lines.specs.Hex.{dash, is_hex_digit, digit_value, unhex, is_hex, read_hex, decoded_length}
use Rattle.lines.specs.Hex.{hex_digit, hex, hex_field}
use Rattle.lines.specs.Field.{read_field, read_fields, write_field, write_fields}
use Rattle.lines.specs.Line.{onto_first, parts_at, before, after, ended_lines, open_rest, read_lines}
use Rattle.lines.specs.Line.{read_after, read_line, and_then, leading, joined, line, write_line}
use Rattle.lines.specs.Cursor.{line_at, field_at, fields_from, read_at, word_at}
use Rattle.lines.specs.Writing.{offset_after, put_at, offset_after_any, put_any}
use Rattle.lines.specs.Readings.{part_of}

unfoldable pub line_definitions : Unit {0}
unfolding ascii is_digit is_decimal digits_after read_number decimal_from decimal dash is_hex_digit digit_value unhex is_hex read_hex decoded_length hex_digit hex hex_field read_field read_fields write_field write_fields onto_first parts_at before after ended_lines open_rest read_lines read_after read_line and_then leading joined line write_line line_at field_at fields_from read_at word_at offset_after put_at offset_after_any put_any part_of
line_definitions = tt

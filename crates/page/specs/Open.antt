-- The definitions that computed cases open, all at once.
use Rattle.page.specs.Bytes.{bytes, same, all, until, keep, trim, unpadded}
use Rattle.page.specs.Lines.{lines, joined, content_size, content, blank, known, find, command, rest, allowed, clean}
use Rattle.page.specs.Fields.{field_size, split, fields, body_of, text_of, digit, value, digits, number_of}
use Rattle.page.specs.Tables.{all_tables, table_at, number_at, columns, width, column_at, name_at, rules, table_named}
use Rattle.page.specs.Order.{upto, listed_order, order_of, often, arranged, standing, place, by_column, column_in}
use Rattle.page.specs.Cut.{begins_table, begins_end, put, cut, placed, header_lines, sections, from_end, trailer_lines}
use Rattle.page.specs.Dates.{leap, days_in, real_date, day_of, real_day, real_time, number_in, digits_in, byte_is, quoted_size, date_of, date_shape, date_ok, time_of, time_shape, time_ok}
use Rattle.page.specs.Header.{form_named, mod_form, src_ok, names_ascii, names_latin, chs_ok, text_ok, holds, met_before, meet, head_choose, mod_step, other_step, head_step, complete, head_end, head_continue, head_run, head_of}
use Rattle.page.specs.Marks.{mark_number, mark_text, remark_of, may_mark, owner_of}
use Rattle.page.specs.Section.{choose, tbl_step, atr_step, size_ok, formed, format_ok, formats_ok, frm_step, words_of, record_text, text_field, day_field, number_field, field_of, field_number, first_wrong, amount_at, own_feeder, foreign_feeder, broken, first_broken, empty_marked, rec_verdict, rec_step, count_step, end_step, mark_step, com_step, line_step, content_step, step, order_after, table_in, finish, continue, run, outcome}
use Rattle.page.specs.Records.{datum_of, values_of, waits, record_in, entries, table_index, atr_in, order_in, entries_of, records_of}
use Rattle.page.specs.Places.{field_place, span_from, field_span, stands, line_of, record_at}
use Rattle.page.specs.Trailer.{eof_ok, all_blank, trailer_finding, trailer_of}
use Rattle.page.specs.Head.{field_in, text_in, stands_in, form_in, latin_in, text_if, head_values, text_span, span_if, header_values, latin_of}
use Rattle.page.specs.Answers.{earlier, refuse_if, answered, paper_of}
use Rattle.page.specs.File.{too_long, header_refusal, row_given, row_of, rows_of, first_unsound, any, first_again, filed_in, filed, same_record, key_in, key_of, has_key, repeats, referred, meets, lost, first_record, filed_of, record_refusal, section_refusal, file_refusal, check_of}
use Rattle.page.specs.Reading.{header_of, outside, section_at, row_at, find_refusal, section_of, list_refusal, list_of, rows_after, verdict_of, value_refusal, field_at, value_in, record_of, value_at, value_of}
use Rattle.page.specs.Model.{content_of, model_of, change, fill_record, fill_content, fill_model, strip_datum, strip_content, strip_model, changed, kept, datum_at}
use Rattle.page.specs.Form.{line_end, separated, line, decimal_in, decimal, padded, doubled, quoted, date_text, time_text, charset_name, line_if, head_form, format_text, datum_text, mark_line, mark_of, marks, record_form, records_form, table_head, content_form, tables_form, form_of}
use Rattle.page.specs.Writing.{put_refusal, put_of, put_after, form_by, write_form, write_of, write_after, strip_form, strip_of, strip_after, empty_datum, fill_place, fill_refusal, fill_form, fill_of, fill_after}
use Rattle.page.specs.Listing.{numbers, printed, print_row, print_rows, print_refusal, print_tables, print_file, listing}

unfoldable pub open_all : Unit {0}
unfolding bytes same all until keep trim unpadded lines joined content_size content blank known find command rest allowed clean field_size split fields body_of text_of digit value digits number_of all_tables table_at number_at columns width column_at name_at rules table_named upto listed_order order_of often arranged standing place by_column column_in begins_table begins_end put cut placed header_lines sections from_end trailer_lines leap days_in real_date day_of real_day real_time number_in digits_in byte_is quoted_size date_of date_shape date_ok time_of time_shape time_ok form_named mod_form src_ok names_ascii names_latin chs_ok text_ok holds met_before meet head_choose mod_step other_step head_step complete head_end head_continue head_run head_of mark_number mark_text remark_of may_mark owner_of choose tbl_step atr_step size_ok formed format_ok formats_ok frm_step words_of record_text text_field day_field number_field field_of field_number first_wrong amount_at own_feeder foreign_feeder broken first_broken empty_marked rec_verdict rec_step count_step end_step mark_step com_step line_step content_step step order_after table_in finish continue run outcome datum_of values_of waits record_in entries table_index atr_in order_in entries_of records_of field_place span_from field_span stands line_of record_at eof_ok all_blank trailer_finding trailer_of field_in text_in stands_in form_in latin_in text_if head_values text_span span_if header_values latin_of earlier refuse_if answered paper_of too_long header_refusal row_given row_of rows_of first_unsound any first_again filed_in filed same_record key_in key_of has_key repeats referred meets lost first_record filed_of record_refusal section_refusal file_refusal check_of header_of outside section_at row_at find_refusal section_of list_refusal list_of rows_after verdict_of value_refusal field_at value_in record_of value_at value_of content_of model_of change fill_record fill_content fill_model strip_datum strip_content strip_model changed kept datum_at line_end separated line decimal_in decimal padded doubled quoted date_text time_text charset_name line_if head_form format_text datum_text mark_line mark_of marks record_form records_form table_head content_form tables_form form_of put_refusal put_of put_after form_by write_form write_of write_after strip_form strip_of strip_after empty_datum fill_place fill_refusal fill_form fill_of fill_after numbers printed print_row print_rows print_refusal print_tables print_file listing
open_all = tt

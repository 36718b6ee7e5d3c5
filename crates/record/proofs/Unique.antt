-- Each public function's contract allows one result for the same arguments: stated over the contract itself.
-- Assumes nothing.
use mathlib.Core.Path.{◌≡◌, refl, sym, ap, ◌∙◌}
use mathlib.Core.Bool.{true≢false}
use Rattle.std.specs.Prelude.{None, Some, option_copied}
use Rattle.record.proofs.field_blank.Reads as field-blank
use Rattle.record.proofs.field_zeros.Reads as field-zeros
use Rattle.record.proofs.field_is.Reads as field_is
use Rattle.record.proofs.field_digits.Reads as field-digits
use Rattle.record.proofs.field_solid.Reads as field-solid
use Rattle.record.proofs.field_number.Reads as field-number
use Rattle.record.proofs.copy_field.Reads as copy-field
use Rattle.record.proofs.part_number.Reads as part-number
use Rattle.record.proofs.field_array.Reads as field-array
use Rattle.record.proofs.fields_same.Reads as fields-same
use Rattle.record.proofs.fields_order.Reads as fields-order
use Rattle.record.proofs.field_order.Reads as field-order
use Rattle.record.proofs.written_valid.Reads as written_valid_holds
use Rattle.record.proofs.written_is.Reads as written_is
use Rattle.record.proofs.written_digits.Reads as written-digits
use Rattle.record.proofs.written_number.Reads as written-number
use Rattle.record.proofs.field_part.Reads as field-part
use Rattle.record.proofs.codes.code_bytes.Reads as code_bytes_holds
use Rattle.record.proofs.codes.code_of.Reads as code_of_lem
use Rattle.record.proofs.codes.is_detail.Reads as is-detail
use Rattle.record.proofs.codes.has_detail.Reads as has-detail
use Rattle.record.proofs.codes.has_header.Reads as has-header
use Rattle.record.proofs.codes.is_trailer.Reads as is-trailer
use Rattle.record.proofs.codes.letter_in.Reads as letter-in
use Rattle.record.proofs.routing.field_routing.Reads as field-routing

-- any two results that a contract allows for the same arguments are equal
abbrev pub OneResult : {K : Type 0} {A R X : K → Type 0} → ((κs : K) → A κs → R κs → X κs → Type 0) → Type 0
OneResult {K} {A} {R} {X} Q = (κs : K) (a : A κs) (r s : R κs) (x y : X κs) → Q κs a r x → Q κs a s y → r ≡ s

pub field_blank_unique : OneResult field-blank.Post
field_blank_unique κs a r s x y p q = p ∙ sym q

pub field_zeros_unique : OneResult field-zeros.Post
field_zeros_unique κs a r s x y p q = p ∙ sym q

pub field_is_unique : OneResult field_is.Post
field_is_unique κs a r s x y p q = p ∙ sym q

pub field_digits_unique : OneResult field-digits.Post
field_digits_unique κs a r s x y p q = p ∙ sym q

pub field_solid_unique : OneResult field-solid.Post
field_solid_unique κs a r s x y p q = p ∙ sym q

pub field_number_unique : OneResult field-number.Post
field_number_unique κs a r s x y p q = p ∙ sym q

-- the part, or none
pub field_part_unique : (κs : _) (a : _) (r s : _) (x y : _) → field-part.Post κs a r x → field-part.Post κs a s y → option_copied r ≡ option_copied s
field_part_unique κs a None None x y p q = refl
field_part_unique κs a None (Some v) x y p q = absurd (true≢false (sym q.0 ∙ p))
field_part_unique κs a (Some u) None x y p q = absurd (true≢false (sym p.0 ∙ q))
field_part_unique κs a (Some u) (Some v) x y p q = ap Some (p.1 ∙ sym q.1)

pub field_array_unique : (width : _) (fits : _) → OneResult (field-array.Post width fits)
field_array_unique width fits κs a r s x y p q = p ∙ sym q

-- behind three arguments, `.0` is the copy
pub copy_field_unique : (κs : _) (a : _) (r s : _) (x y : _) → copy-field.Post κs a r x → copy-field.Post κs a s y → x.1.1.1.0.now ≡ y.1.1.1.0.now
copy_field_unique κs a r s x y p q = p ∙ sym q

pub part_number_unique : OneResult part-number.Post
part_number_unique κs a r s x y p q = p ∙ sym q

pub fields_same_unique : OneResult fields-same.Post
fields_same_unique κs a r s x y p q = p ∙ sym q

pub fields_order_unique : OneResult fields-order.Post
fields_order_unique κs a r s x y p q = p ∙ sym q

pub field_order_unique : OneResult field-order.Post
field_order_unique κs a r s x y p q = p ∙ sym q

pub written_valid_unique : OneResult written_valid_holds.Post
written_valid_unique κs a r s x y p q = p ∙ sym q

pub written_is_unique : OneResult written_is.Post
written_is_unique κs a r s x y p q = p ∙ sym q

pub written_digits_unique : OneResult written-digits.Post
written_digits_unique κs a r s x y p q = p ∙ sym q

pub written_number_unique : OneResult written-number.Post
written_number_unique κs a r s x y p q = p ∙ sym q

pub code_bytes_unique : OneResult code_bytes_holds.Post
code_bytes_unique κs a r s x y p q = p ∙ sym q

pub code_of_unique : OneResult code_of_lem.Post
code_of_unique κs a r s x y p q = p ∙ sym q

pub is_detail_unique : OneResult is-detail.Post
is_detail_unique κs a r s x y p q = p ∙ sym q

pub has_detail_unique : OneResult has-detail.Post
has_detail_unique κs a r s x y p q = p ∙ sym q

pub has_header_unique : OneResult has-header.Post
has_header_unique κs a r s x y p q = p ∙ sym q

pub is_trailer_unique : OneResult is-trailer.Post
is_trailer_unique κs a r s x y p q = p ∙ sym q

pub letter_in_unique : OneResult letter-in.Post
letter_in_unique κs a r s x y p q = p ∙ sym q

pub field_routing_unique : OneResult field-routing.Post
field_routing_unique κs a r s x y p q = p ∙ sym q

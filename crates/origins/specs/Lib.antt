pub mod Origins
pub mod Steps
